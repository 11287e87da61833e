pub mod Meant
pub mod ReadsBack
pub mod NeverThree
pub mod Attested
