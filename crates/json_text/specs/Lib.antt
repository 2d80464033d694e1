pub mod Sinks
pub mod Shown
pub mod Members
