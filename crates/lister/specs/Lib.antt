pub mod Ends
pub mod Patterns
