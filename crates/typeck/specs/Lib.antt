pub mod Enough
pub mod Check
pub mod Searching
pub mod Bench
pub mod Editions
