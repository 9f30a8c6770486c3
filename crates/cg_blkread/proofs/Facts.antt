-- The lists of what a block breaks have exactly what the facts say.
pub mod Entries
pub mod Values
pub mod Registers
pub mod Shadowed
pub mod Interfaces
pub mod BlockValues
pub mod BlockKeys
pub mod BlockEntries
pub mod Listed
