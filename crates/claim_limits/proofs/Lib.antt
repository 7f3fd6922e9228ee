pub mod Other
pub mod Studio
pub mod Caligari
pub mod Cinema
pub mod TooLong
