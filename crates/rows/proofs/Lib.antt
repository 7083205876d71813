pub mod Table
pub mod Taking
pub mod Marking
pub mod Widths
pub mod Slots
pub mod Storing
