pub mod Deeds
pub mod Outcome
