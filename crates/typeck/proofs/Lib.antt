pub mod Enough
pub mod Saying
