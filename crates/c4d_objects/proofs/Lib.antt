pub mod Notes
pub mod Walking
