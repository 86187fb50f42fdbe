pub mod ByComputing
pub mod Going
pub mod Start
pub mod Theorems
pub mod Unique
