pub mod Values
pub mod Forms
pub mod Table
pub mod Elements
pub mod Lookups
pub mod Duplicates
pub mod Violations
pub mod Lists
