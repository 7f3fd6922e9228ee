pub mod Same
pub mod Records
pub mod Front
pub mod InPlace
