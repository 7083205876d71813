pub mod Turning
pub mod Saying
pub mod Refusing
