pub mod Meaning
pub mod Decision
