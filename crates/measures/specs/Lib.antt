pub mod Cut
pub mod Heads
