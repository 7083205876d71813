pub mod Free
mod Naming
mod Runs
mod Ordering
