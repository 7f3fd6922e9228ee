pub mod Asked
pub mod Differing
pub mod Gathering
pub mod Groups
