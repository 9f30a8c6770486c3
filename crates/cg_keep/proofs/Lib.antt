pub mod Wanted
mod Building
mod Laws
pub mod Texts
