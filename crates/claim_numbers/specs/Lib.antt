pub mod Tells
pub mod Studio
pub mod Slips
pub mod Sticks
pub mod Caligari
pub mod Cinema
pub mod Told
