pub mod Lines
pub mod Input
pub mod Reading
pub mod Laws
