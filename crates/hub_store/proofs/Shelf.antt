-- What the shelf promises.
pub mod Left
pub mod Telling
pub mod Opened
