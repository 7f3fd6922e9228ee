pub mod Evidence
pub mod Verified
pub mod Calls
