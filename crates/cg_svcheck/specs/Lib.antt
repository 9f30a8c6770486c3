pub mod Printing
pub mod Plain
pub mod RegisterTests
pub mod Counting
pub mod Widths
pub mod Fitting
pub mod Whole
pub mod Lookups
