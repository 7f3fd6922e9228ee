pub mod Layouts
pub mod Chunks
