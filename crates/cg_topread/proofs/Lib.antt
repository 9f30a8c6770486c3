pub mod TypesOnce
mod Uses
mod KeyOrder
mod Firsts
mod Pairs
mod ListedFacts
mod PartFacts
pub mod TopFacts
mod Rising
mod Values
mod ValidBases
mod FewTypes
mod Valid
