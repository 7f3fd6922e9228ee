pub mod InPlace
pub mod Wanted
pub mod Laws
pub mod Fit
pub mod Asked
