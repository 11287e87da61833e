pub mod Rungs
pub mod Answers
pub mod Names
pub mod Range
