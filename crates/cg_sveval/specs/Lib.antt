pub mod Cells
pub mod Numbers
pub mod Tables
pub mod Lookups
