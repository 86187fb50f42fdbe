pub mod Computes
pub mod ByComputing
pub mod Words
pub mod Spoken
pub mod Texts
pub mod Making
pub mod Complaints
pub mod Theorems
