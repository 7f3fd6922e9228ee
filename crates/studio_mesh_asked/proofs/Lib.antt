pub mod Asks
pub mod Choices
pub mod Room
pub mod Within
