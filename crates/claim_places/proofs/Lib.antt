pub mod Records
pub mod Names
pub mod Boxes
pub mod Tables
pub mod Owners
