pub mod TopHeader
pub mod Meaning
pub mod Laws
