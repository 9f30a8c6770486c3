pub mod Violations
pub mod Expands
pub mod Parts
