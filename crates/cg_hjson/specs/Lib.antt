pub mod Views
pub mod Reading
pub mod Staying
pub mod Answers
pub mod Integers
pub mod Json
