pub mod Around
pub mod Before
