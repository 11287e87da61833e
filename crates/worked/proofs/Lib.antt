pub mod Life
pub mod Conflict
pub mod Locked
pub mod Full
pub mod Format
pub mod Fakes
pub mod Literally
