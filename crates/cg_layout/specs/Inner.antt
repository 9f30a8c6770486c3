pub mod Extents
pub mod Gates
pub mod Faces
