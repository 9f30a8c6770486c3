pub mod FullTop
pub mod Places
pub mod Completed
pub mod Parts
