pub mod Objects
pub mod Steps
pub mod Figure
