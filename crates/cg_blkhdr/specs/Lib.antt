pub mod Answers
pub mod Small
pub mod Views
pub mod Contents
