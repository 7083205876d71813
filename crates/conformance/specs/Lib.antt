pub mod Parts
pub mod Adding
