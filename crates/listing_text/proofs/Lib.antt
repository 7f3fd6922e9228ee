pub mod Rows
pub mod Whole
pub mod Samples
