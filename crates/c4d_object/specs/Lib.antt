pub mod Ahead
pub mod One
