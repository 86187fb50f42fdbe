pub mod Said
pub mod Moves
pub mod Parts
