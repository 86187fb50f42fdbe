pub mod Same
pub mod Judged
pub mod Gotten
pub mod Meant
pub mod Reading
pub mod Line
pub mod Unique
