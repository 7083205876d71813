pub mod Cutting
pub mod Spans
pub mod ByKind
