pub mod Lists
pub mod Zeros
pub mod Reading
pub mod Units
pub mod OneFile
pub mod Planning
pub mod Folders
pub mod Gathering
pub mod TopReads
pub mod TopFiles
pub mod TopDue
pub mod TopPlan
pub mod SameReads
pub mod Once
pub mod Endings
pub mod Kept
pub mod Meanings
mod Sampling
mod ByWords
