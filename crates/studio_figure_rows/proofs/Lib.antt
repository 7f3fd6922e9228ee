pub mod Runs
pub mod Answers
pub mod Apart
pub mod Same
pub mod Fitting
pub mod Floats
