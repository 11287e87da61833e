pub mod Schedule
pub mod Recurrence
pub mod Rounds
pub mod Standing
pub mod Padding
pub mod Vectors
