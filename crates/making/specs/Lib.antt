-- In the order to read them.
pub mod Making
pub mod Promises
