pub mod Scene
pub mod Ungrouped
pub mod Contents
pub mod Passed
