pub mod Bytes
pub mod Turns
pub mod Outcomes
pub mod Planning
