pub mod Turns
pub mod Fitting
pub mod Inside
pub mod Unique
