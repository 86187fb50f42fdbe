pub mod ByComputing
pub mod Order
pub mod InTurns
pub mod Inside
pub mod Theorems
