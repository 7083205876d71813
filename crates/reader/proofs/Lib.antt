pub mod Numbers
pub mod Telling
pub mod Losing
pub mod Judging
pub mod Fetching
pub mod Plain
