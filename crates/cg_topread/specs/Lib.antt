pub mod Tables
pub mod Types
pub mod InOrder
pub mod Violations
pub mod Listed
pub mod Described
pub mod Reads
