pub mod Filled
pub mod Decoded
