pub mod Walking
pub mod Along
pub mod Holding
