pub mod Digits
pub mod Refused
pub mod Unique
