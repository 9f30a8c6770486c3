pub mod Chip
pub mod Outputs
pub mod Violations
pub mod Meaning
pub mod Inner
pub mod Laws
