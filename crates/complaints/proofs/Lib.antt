pub mod Finding
pub mod Showing
pub mod Said
pub mod Unique
