pub mod Makes
pub mod Whole
pub mod Paths
