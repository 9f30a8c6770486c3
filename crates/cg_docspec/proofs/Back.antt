-- From the machine to the grammar, one character back: what is left behind a character, with it in front, is left before it.
pub mod Comments
pub mod Tokens
pub mod Gaps
pub mod Plain
pub mod Slashes
pub mod Quotes
pub mod Lines
pub mod States
