pub mod ByComputing
pub mod Digits
pub mod ReadBack
pub mod Theorems
