pub mod Bits
pub mod Trees
pub mod Leaves
pub mod Equality
pub mod Walk
