pub mod Marks
pub mod Near
