pub mod Whole
pub mod Guesses
pub mod Shown
