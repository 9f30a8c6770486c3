pub mod Order
mod PartsListed
mod Numbers
pub mod ClocksListed
pub mod ClocksUsed
