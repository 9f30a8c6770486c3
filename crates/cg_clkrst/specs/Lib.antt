pub mod Ports
pub mod Ties
pub mod Violations
pub mod Owned
