pub mod Fletcher
pub mod Joined
pub mod Passes
pub mod Totals
pub mod Samples
