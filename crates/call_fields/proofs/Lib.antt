pub mod Strings
pub mod Decoded
