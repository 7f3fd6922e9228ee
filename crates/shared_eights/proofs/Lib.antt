pub mod Columns
pub mod First
pub mod Marks
pub mod Trailing
