pub mod Halves
pub mod Lists
pub mod Parts
