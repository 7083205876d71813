pub mod Finding
pub mod Adding
pub mod Endless
pub mod Meaning
pub mod Compatible
pub mod Conformance
pub mod Findings
pub mod Examples
