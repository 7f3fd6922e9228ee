pub mod Slip
pub mod Rules
pub mod Conditions
pub mod Walk
pub mod Calls
pub mod Theorems
pub mod Samples
