pub mod Asked
pub mod Triangles
pub mod Rows
