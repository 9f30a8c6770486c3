mod Walks
mod TopRules
mod InstanceRules
mod Repeats
mod Partners
mod Spellings
mod NodeRules
pub mod FirstFaults
mod BlockNumbers
mod Fits
mod NodeEnds
mod OneEnd
pub mod OneMerge
