pub mod Births
pub mod Ends
