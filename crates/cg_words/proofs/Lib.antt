pub mod Rows
pub mod Taken
pub mod ExactWords
pub mod OtherTools
