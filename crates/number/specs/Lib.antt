pub mod Number
pub mod Shortest
pub mod Grammar
pub mod Answers
