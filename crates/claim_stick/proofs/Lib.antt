pub mod Verified
pub mod Calls
pub mod Passes
