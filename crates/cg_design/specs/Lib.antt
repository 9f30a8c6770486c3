pub mod Files
pub mod Breaks
pub mod Design
pub mod Violations
pub mod Laws
pub mod Inner
