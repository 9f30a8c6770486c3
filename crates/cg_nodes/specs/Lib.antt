pub mod Order
pub mod Parts
pub mod Clocks
pub mod Listed
