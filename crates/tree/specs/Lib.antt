pub mod Tree
pub mod TreeAt
pub mod Short
pub mod Encoding
