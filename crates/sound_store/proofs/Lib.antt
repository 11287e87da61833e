pub mod Agreeing
pub mod Along
pub mod Showing
pub mod Plain
