pub mod Arrivals
pub mod Texts
pub mod Messages
