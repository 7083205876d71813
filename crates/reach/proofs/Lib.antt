pub mod Ordered
mod Bits
pub mod Walking
mod Arranging
mod Backing
