pub mod Facts
mod FieldOrder
mod FirstBroken
mod MoreKeys
mod NameSets
mod Order
mod Picked
pub mod Plain
mod SeenBits
mod SeenKeys
pub mod Sound
