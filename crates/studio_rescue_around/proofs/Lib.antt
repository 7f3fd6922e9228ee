pub mod Ahead
pub mod Splits
pub mod Answers
pub mod Contexts
pub mod Behind
pub mod Whole
