pub mod Tests
pub mod Conditions
pub mod Bounds
pub mod Numbers
pub mod Sized
mod Flaws
