pub mod ByEvent
pub mod Afresh
pub mod Unique
