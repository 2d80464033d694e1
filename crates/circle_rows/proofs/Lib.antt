pub mod Exchanged
pub mod InKeys
