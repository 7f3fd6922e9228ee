pub mod Spans
pub mod Judging
pub mod Filling
