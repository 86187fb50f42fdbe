pub mod Makers
