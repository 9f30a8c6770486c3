pub mod Order
pub mod Walks
pub mod InstanceBlocks
pub mod Listed
mod Widths
mod Listings
mod Passing
pub mod OneNumbering
