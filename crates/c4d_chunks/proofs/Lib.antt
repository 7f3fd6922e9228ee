pub mod Entered
pub mod Loop
