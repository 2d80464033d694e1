pub mod Characters
pub mod Pointers
pub mod Unescaping
pub mod Inverse
pub mod Prefixes
pub mod Beginnings
mod Steps
