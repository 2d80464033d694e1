pub mod Text
pub mod Pointer
