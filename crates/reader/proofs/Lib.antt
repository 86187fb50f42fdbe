pub mod ByKind
pub mod Unique
