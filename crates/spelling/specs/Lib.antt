-- In the order to read them.
pub mod Text
pub mod Numbers
pub mod Worked
pub mod Promises
