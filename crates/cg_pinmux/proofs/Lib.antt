pub mod Lists
pub mod OneMap
mod Reading
mod Naming
mod Loops
mod Looking
mod Members
mod Uses
mod Breaking
mod Walks
mod Telling
mod Kept
mod Counting
mod Tying
