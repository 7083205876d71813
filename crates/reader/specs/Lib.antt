pub mod Reading
pub mod Refusals
pub mod Promise
pub mod Lost
pub mod Examples
