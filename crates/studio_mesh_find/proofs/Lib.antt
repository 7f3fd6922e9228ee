pub mod Ways
pub mod Parts
pub mod Meshes
pub mod Objects
