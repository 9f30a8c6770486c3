pub mod Layout
pub mod Said
pub mod ReadsBack
pub mod Laws
