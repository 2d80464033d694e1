pub mod FirstRows
pub mod Served
