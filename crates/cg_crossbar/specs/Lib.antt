pub mod Stages
pub mod Outputs
pub mod Breaks
pub mod Meaning
pub mod Laws
