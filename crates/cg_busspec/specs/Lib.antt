pub mod Ranges
pub mod Crossbar
pub mod CrossbarModule
pub mod Passage
pub mod CrossbarMeaning
pub mod Laws
