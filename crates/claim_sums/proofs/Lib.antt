pub mod Changed
pub mod Weights
pub mod Bits
pub mod Turned
pub mod TwoBits
pub mod Passes
