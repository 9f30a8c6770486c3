-- Each prefix that the machine reads begins a document: what holds of the machine's states, and a text that completes each.
pub mod Fine
pub mod Room
pub mod Growth
pub mod Closing
pub mod ClosingQuotes
pub mod States
