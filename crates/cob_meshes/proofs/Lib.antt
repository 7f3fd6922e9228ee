pub mod Faces
pub mod Puts
pub mod Passed
pub mod Calls
