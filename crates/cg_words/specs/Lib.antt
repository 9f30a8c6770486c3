pub mod Tools
pub mod Words
