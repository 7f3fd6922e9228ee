pub mod Mends
