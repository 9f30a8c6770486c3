-- The reader's machine: it takes a text character by character. An inner definition, which the laws tie to the grammar.
pub mod Awaited
pub mod Frame
pub mod Escape
pub mod Spot
pub mod Now
pub mod State
pub mod Numeral
pub mod Closing
pub mod Token
pub mod Plain
pub mod Comment
pub mod Quote
pub mod MultiLine
pub mod Run
