pub mod Ways
pub mod Table
pub mod Loops
