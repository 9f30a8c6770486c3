pub mod Full
pub mod Places
pub mod Completed
pub mod Parts
