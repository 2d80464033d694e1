pub mod Answers
pub mod Hosts
pub mod Outcomes
pub mod Runs
pub mod Status
pub mod Streams
pub mod Troubles
pub mod Words
