pub mod Exact
pub mod Asked
pub mod Empty
