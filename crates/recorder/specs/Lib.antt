-- In the order to read them.
pub mod Recorded
pub mod Steps
