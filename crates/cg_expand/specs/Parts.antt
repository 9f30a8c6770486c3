-- What the parts of an expansion find and count.
pub mod Labels
pub mod Names
pub mod Copies
pub mod Automatic
pub mod Sizes
pub mod Faults
