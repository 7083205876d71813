pub mod Leading
pub mod Ranks
