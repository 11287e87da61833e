pub mod Scans
pub mod Gather
pub mod Filled
pub mod Near
