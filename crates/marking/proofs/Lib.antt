pub mod Fronts
pub mod Sites
pub mod Written
pub mod Bad
pub mod Placed
pub mod Marked
pub mod Owned
