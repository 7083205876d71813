pub mod Known
pub mod Long
pub mod Writing
