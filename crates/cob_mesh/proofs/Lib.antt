pub mod Placed
pub mod Faces
pub mod Below
