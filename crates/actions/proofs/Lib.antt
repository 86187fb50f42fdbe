-- In the order in which they build on each other.
pub mod Faults
pub mod Senders
pub mod Decides
pub mod Ends
pub mod Unique
