pub mod Said
pub mod Early
