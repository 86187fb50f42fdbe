pub mod ByMask
pub mod Settled
pub mod ByEvent
pub mod Unique
