pub mod Marks
pub mod Hints
