pub mod Columns
pub mod Apart
pub mod Places
pub mod Sited
