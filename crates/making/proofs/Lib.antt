pub mod Written
pub mod Onward
pub mod Counts
pub mod Leaves
pub mod Made
