pub mod ByComputing
pub mod Room
pub mod Chained
pub mod Fit
pub mod Theorems
pub mod Unique
