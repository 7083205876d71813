pub mod Bare
pub mod Steps
