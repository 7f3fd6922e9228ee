pub mod Same
pub mod Few
pub mod Boxes
