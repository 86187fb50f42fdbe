pub mod Figures
pub mod Promises
