pub mod Working
pub mod Arranging
