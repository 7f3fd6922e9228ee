pub mod Standing
pub mod Calls
pub mod Boxes
pub mod Theorems
