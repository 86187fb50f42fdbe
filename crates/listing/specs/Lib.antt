-- In the order to read them.
pub mod Listing
pub mod Parts
pub mod Worked
pub mod Promises
