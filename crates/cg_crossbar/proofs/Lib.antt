pub mod Valid
pub mod Ranges
pub mod FirstOnes
pub mod Once
pub mod Meanings
