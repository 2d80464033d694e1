pub mod Steps
mod Clearances
mod Refusals
pub mod Sight
mod Onwards
pub mod Descents
mod Reaches
mod Moments
mod Computed
