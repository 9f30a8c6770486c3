mod Heard
mod Elements
mod Tests
mod NodeNames
mod KeyFacts
mod NodeFacts
mod FirstBroken
mod Ranges
mod Numbers
pub mod ValidParts
pub mod ValidEnds
pub mod Valid
