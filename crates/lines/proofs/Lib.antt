mod Growing
mod Decimal
mod Chunks
mod Pieces
pub mod Bound
pub mod Whole
pub mod Examples
