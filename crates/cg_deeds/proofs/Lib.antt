pub mod Lists
pub mod Stopping
