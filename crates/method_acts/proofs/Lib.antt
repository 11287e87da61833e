pub mod Climbs
pub mod Blocks
pub mod Halves
pub mod Moving
pub mod Methods
