pub mod Explanation
pub mod Explained
pub mod Listing
pub mod Lines
