pub mod Field
pub mod Slot
pub mod Short
