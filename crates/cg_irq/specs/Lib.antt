pub mod Instances
pub mod Numbers
pub mod Violations
pub mod Walked
pub mod Listed
