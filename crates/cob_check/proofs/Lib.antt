pub mod Lists
pub mod Reached
pub mod Header
pub mod Answers
