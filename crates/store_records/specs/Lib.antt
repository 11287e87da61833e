pub mod View
pub mod Choices
