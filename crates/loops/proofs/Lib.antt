pub mod Chains
pub mod Marking
mod Filling
pub mod Leading
pub mod Finding
