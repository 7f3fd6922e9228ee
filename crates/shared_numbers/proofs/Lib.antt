pub mod At
pub mod Slices
pub mod Put
pub mod Finite
pub mod Numbers
