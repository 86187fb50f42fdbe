-- In the order to read them.
pub mod Transcribed
pub mod Steps
