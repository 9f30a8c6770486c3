pub mod Puts
pub mod Rising
