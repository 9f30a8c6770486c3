pub mod Tables
pub mod Written
pub mod Violations
pub mod Listed
pub mod Described
pub mod Reads
