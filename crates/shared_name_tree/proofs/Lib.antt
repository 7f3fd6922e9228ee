pub mod Way
pub mod Held
pub mod Row
