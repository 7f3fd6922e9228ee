pub mod Given
pub mod Samples
