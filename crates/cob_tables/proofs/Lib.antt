pub mod Chunks
pub mod Finding
pub mod Picks
pub mod Faces
pub mod Answers
