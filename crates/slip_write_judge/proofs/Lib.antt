pub mod Rows
pub mod Labels
pub mod Good
pub mod Judging
pub mod Answers
