-- What a block breaks, rule by rule, as facts on its document.
pub mod Parts
pub mod Keys
pub mod Profile
pub mod Interfaces
pub mod Values
