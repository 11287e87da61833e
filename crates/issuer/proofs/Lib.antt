pub mod Writing
pub mod Cases
pub mod Checks
