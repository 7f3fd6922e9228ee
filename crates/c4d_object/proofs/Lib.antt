pub mod Ahead
pub mod Reading
