pub mod Fill
pub mod Copied
pub mod BitForBit
