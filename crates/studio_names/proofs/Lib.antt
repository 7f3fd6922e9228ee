pub mod Fits
pub mod Labels
pub mod Names
