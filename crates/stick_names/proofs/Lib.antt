pub mod Alike
pub mod Digests
