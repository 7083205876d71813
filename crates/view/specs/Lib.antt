pub mod Part
pub mod Take
pub mod Inside
