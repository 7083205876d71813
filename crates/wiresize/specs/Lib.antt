pub mod Rows
pub mod Asked
