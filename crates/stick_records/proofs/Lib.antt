pub mod Eight
pub mod Walk
