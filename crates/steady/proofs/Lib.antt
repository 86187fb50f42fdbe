-- In the order in which they build on each other.
pub mod Ends
pub mod Alone
pub mod Held
pub mod Theorems
pub mod Unique
