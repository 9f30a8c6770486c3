pub mod Lookups
pub mod Loops
