pub mod Runs
pub mod Places
