pub mod Labels
pub mod NodeLists
pub mod Powers
pub mod Bundles
pub mod Made
pub mod Graphs
pub mod NamesOf
