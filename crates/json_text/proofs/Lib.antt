mod Escapes
pub mod Puts
mod Texts
mod Trees
pub mod Objects
pub mod Lists
