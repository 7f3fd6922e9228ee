pub mod Judging
pub mod Expected
