pub mod Header
pub mod HeaderFault
pub mod Reading
pub mod BlockHeader
pub mod Whole
pub mod Meaning
pub mod Laws
