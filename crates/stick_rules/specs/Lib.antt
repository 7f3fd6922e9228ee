pub mod Names
pub mod Items
pub mod Judge
pub mod Records
pub mod Theorems
pub mod Samples
