pub mod Shared
pub mod Violations
pub mod Answers
pub mod Rows
pub mod Laws
pub mod Inner
