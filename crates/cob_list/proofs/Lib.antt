pub mod Owned
pub mod Rows
pub mod Passing
pub mod Rounds
pub mod Calls
