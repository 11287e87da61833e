pub mod Forms
pub mod Rows
pub mod Order
pub mod Lines
