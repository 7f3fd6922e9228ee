pub mod Standing
pub mod Calls
pub mod Theorems
