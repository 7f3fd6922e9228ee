pub mod Bounds
pub mod Judges
