-- Several statements in a transaction, and what they make of a state.
pub mod PutsThen
pub mod Steps
pub mod Changes
pub mod Between
pub mod Runs
pub mod Inside
