mod Lists
mod Items
mod Apart
mod Names
mod Offsets
mod Gates
mod Modules
mod Headers
mod Law
pub mod ApartGrowth
pub mod ApartTrees
pub mod ApartParts
pub mod ApartFields
pub mod ApartNames
pub mod ApartCopies
pub mod ApartBlocks
