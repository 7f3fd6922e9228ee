pub mod Contexts
pub mod Parts
pub mod Chunks
pub mod Runs
pub mod Entering
pub mod Loop
pub mod Passing
