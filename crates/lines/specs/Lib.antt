-- In the order to read them.
pub mod Lines
pub mod Worked
pub mod Promises
