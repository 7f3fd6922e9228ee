pub mod Fathers
pub mod Before
pub mod Trees
