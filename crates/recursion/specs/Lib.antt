pub mod Recursion
pub mod Examples
