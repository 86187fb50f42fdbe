pub mod Places
pub mod Moving
pub mod Turns
pub mod Unique
