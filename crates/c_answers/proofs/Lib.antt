pub mod Gives
pub mod Samples
