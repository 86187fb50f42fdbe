-- In the order to read them.
pub mod Parts
pub mod Turns
pub mod Promises
