pub mod BitForBit
