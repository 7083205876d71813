pub mod Ended
pub mod Encodings
pub mod Heads
pub mod Typing
pub mod Counting
pub mod Elements
pub mod Settling
pub mod Nodes
