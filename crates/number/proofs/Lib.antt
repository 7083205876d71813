pub mod Groups
pub mod Laws
pub mod Shortest
pub mod InRange
pub mod Reading
pub mod Runs
