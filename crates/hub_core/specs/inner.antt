pub mod Asked
pub mod Wanted
