pub mod Heads
pub mod Contexts
pub mod Passes
