pub mod OneMore
pub mod Conditions
