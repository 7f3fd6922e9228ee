pub mod Things
pub mod Same
pub mod Whole
