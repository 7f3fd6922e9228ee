pub mod InPlace
pub mod InRow
pub mod Filling
