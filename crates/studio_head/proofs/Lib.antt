pub mod Places
pub mod Orders
pub mod Opens
pub mod Looks
pub mod Passing
