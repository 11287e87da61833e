pub mod Reading
pub mod ReadBackCalls
pub mod ReadsBack
pub mod Three
pub mod NeverThree
pub mod Attested
