pub mod Ways
pub mod Filling
