pub mod Bodies
pub mod Required
pub mod Targets
pub mod Slots
pub mod Having
