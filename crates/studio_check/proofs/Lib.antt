pub mod Files
pub mod Accepted
