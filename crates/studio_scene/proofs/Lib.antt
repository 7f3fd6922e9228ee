pub mod Ungrouped
pub mod Then
pub mod Children
pub mod Around
pub mod Contents
pub mod Holds
