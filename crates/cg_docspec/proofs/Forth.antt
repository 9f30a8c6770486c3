-- From the grammar to the machine: what is a document by the grammar, the machine reads, with the same tree.
pub mod Gaps
pub mod Quotes
pub mod Lines
pub mod Plain
pub mod Leaves
pub mod Keys
pub mod Values
