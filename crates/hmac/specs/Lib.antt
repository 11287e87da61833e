pub mod Same
pub mod Hmac
pub mod Keyed
