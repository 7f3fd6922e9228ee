pub mod Runs
pub mod Figure
