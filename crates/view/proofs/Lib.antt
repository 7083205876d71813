pub mod Fetching
pub mod Places
pub mod Taking
pub mod Insides
pub mod Onward
