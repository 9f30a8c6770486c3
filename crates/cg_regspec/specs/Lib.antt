pub mod NetNames
pub mod Ports
pub mod RegisterModule
pub mod Meaning
pub mod Runs
pub mod Laws
