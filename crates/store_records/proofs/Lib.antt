pub mod Past
pub mod Steps
pub mod Views
pub mod Shown
pub mod Places
pub mod Blanks
pub mod Every
