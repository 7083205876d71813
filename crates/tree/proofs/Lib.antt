pub mod Ranges
pub mod Levels
pub mod Shapes
pub mod Nodes
pub mod TwoBytes
