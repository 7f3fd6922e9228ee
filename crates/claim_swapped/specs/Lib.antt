pub mod Names
pub mod Swapped
pub mod Samples
