-- In the order to read them.
pub mod Windows
pub mod Promises
