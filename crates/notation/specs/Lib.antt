-- In the order to read them.
pub mod Words
pub mod Phrases
pub mod Lines
pub mod Texts
pub mod Makers
pub mod Complaints
pub mod Worked
pub mod Promises
