pub mod Runs
pub mod Chunks
pub mod Owns
pub mod Loop
