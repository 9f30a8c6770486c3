mod Items
mod Places
mod Texts
mod Phases
mod Clashes
mod Described
mod Telling
mod Loops
mod Ranged
mod Computed
mod Built
mod Tops
pub mod MeaningModules
pub mod MeaningOrder
pub mod MeaningBlocks
pub mod MeaningTop
pub mod MeaningClashes
pub mod MeaningTexts
pub mod MeaningWhole
pub mod OneRanges
pub mod OneChip
pub mod OneBuild
