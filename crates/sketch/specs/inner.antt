pub mod Puts
pub mod Held
