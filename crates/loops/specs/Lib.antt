pub mod Leads
pub mod Located
pub mod Marks
pub mod Refusals
pub mod Chains
