pub mod Rank
pub mod Occurs
pub mod Places
pub mod Scopes
pub mod Independent
pub mod Examples
