pub mod Interfaces
pub mod Examples
