pub mod Sameness
pub mod Vectors
