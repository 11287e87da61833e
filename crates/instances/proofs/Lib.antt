pub mod Pair
pub mod ApartCloseFirst
pub mod ApartPostFirst
pub mod UnnamedCloseFirst
pub mod UnnamedPostFirst
pub mod Conflict
pub mod Apart
pub mod Unnamed
