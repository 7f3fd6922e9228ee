pub mod Calls
pub mod Filling
pub mod Noted
pub mod Putting
