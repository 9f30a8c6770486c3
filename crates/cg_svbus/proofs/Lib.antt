pub mod Countings
pub mod TopParts
pub mod Spellings
