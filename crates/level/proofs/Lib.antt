pub mod Answers
pub mod Types
pub mod Fields
pub mod Variants
pub mod Slots
