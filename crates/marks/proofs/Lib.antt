pub mod Fields
pub mod Runs
pub mod Starting
pub mod Parted
