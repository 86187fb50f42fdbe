-- In the order to read them.
pub mod Following
pub mod Promises
