-- In the order in which they build on each other.
pub mod Below
pub mod OneBit
pub mod Masks
pub mod Unique
