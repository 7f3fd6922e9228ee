pub mod Form
pub mod Verdict
