pub mod Fate
pub mod Sets
