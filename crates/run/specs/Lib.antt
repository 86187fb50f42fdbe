-- In the order to read them.
pub mod Reached
pub mod Promises
pub mod Going
