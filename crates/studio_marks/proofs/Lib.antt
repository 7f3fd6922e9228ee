pub mod Slots
pub mod Noted
pub mod After
pub mod Children
pub mod Ends
pub mod Places
