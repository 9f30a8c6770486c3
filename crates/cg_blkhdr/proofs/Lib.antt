mod Laid
mod Lists
mod Sums
pub mod Splits
pub mod Numbers
pub mod Cuts
