pub mod Outside
pub mod Deeds
pub mod Told
pub mod Inner
