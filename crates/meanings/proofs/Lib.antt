pub mod Heights
pub mod Ended
pub mod Arguments
pub mod Leaves
pub mod Aliases
pub mod Naming
pub mod Enough
pub mod Noting
