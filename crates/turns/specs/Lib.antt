pub mod Sizing
pub mod Refusals
