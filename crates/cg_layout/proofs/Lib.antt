mod Lists
mod Ends
mod Gating
mod Faces
mod Laying
mod Placing
pub mod Once
pub mod Whole
