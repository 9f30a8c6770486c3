pub mod FaultOrder
pub mod OneTarget
pub mod InterfaceNames
pub mod Numbered
pub mod Blocks
pub mod FoundBases
