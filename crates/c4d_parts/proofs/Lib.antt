pub mod Bits
pub mod Table
pub mod Sets
pub mod Numbered
