pub mod Rules
pub mod Meshes
pub mod Names
pub mod Exchanged
pub mod Swapped
pub mod Samples
