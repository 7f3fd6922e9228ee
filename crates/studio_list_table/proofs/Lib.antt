pub mod Front
pub mod Outcome
pub mod Together
