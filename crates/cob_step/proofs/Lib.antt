pub mod Faults
pub mod Stepped
