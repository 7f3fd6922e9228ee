pub mod Remainders
pub mod Weighted
pub mod Joined
pub mod Bytewise
pub mod Passes
pub mod Steps
pub mod Parts
pub mod Samples
