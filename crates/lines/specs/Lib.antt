pub mod Lines
pub mod Growing
