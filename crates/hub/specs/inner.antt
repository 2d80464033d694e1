pub mod Asking
pub mod Exchanged
pub mod Explaining
pub mod Viewing
pub mod PageFilter
pub mod InTurn
