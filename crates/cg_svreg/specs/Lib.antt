pub mod Parts
pub mod Narrow
pub mod Named
pub mod Interface
