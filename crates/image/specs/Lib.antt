pub mod Schema
pub mod Image
pub mod Finds
pub mod Changed
