pub mod Lists
pub mod Narrow
pub mod ReadBefore
pub mod Terms
pub mod Printing
pub mod RowsLeft
