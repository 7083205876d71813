pub mod Tables
pub mod Framing
pub mod Finding
