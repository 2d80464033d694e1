pub mod Rows
pub mod LookUps
pub mod Edits
pub mod Versions
pub mod Shelf
