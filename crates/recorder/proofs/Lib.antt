pub mod Writing
pub mod Recording
pub mod Turns
pub mod Inside
pub mod Unique
