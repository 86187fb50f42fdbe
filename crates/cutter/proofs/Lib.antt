pub mod Passing
pub mod Words
pub mod Unique
