pub mod Finding
pub mod Digesting
pub mod Marking
pub mod Going
pub mod Whole
