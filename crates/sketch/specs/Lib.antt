pub mod Bits
pub mod Runs
pub mod Holdings
pub mod Labels
pub mod Sketched
pub mod Judged
pub mod Laws
pub mod inner
