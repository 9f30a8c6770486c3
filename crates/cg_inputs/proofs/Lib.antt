pub mod Pieces
pub mod LineLaws
pub mod Nexts
pub mod Readings
pub mod More
pub mod LeastRest
