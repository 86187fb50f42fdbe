pub mod Put
pub mod Digits
pub mod Room
pub mod Unique
pub mod Moves
pub mod Chained
