pub mod Puts
pub mod Todos
