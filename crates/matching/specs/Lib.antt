pub mod Steps
pub mod Comparing
