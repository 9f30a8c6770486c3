pub mod Violations
pub mod Lays
pub mod Inner
