pub mod Nibbles
pub mod Unique
