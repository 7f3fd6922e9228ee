pub mod Vertices
pub mod Around
pub mod FiniteBox
pub mod Samples
