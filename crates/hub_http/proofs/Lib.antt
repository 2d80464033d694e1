pub mod Numbers
pub mod ValuesSoFar
pub mod OneAnswer
pub mod Heads
pub mod Gates
pub mod Readings
pub mod AnswersStand
pub mod Replied
pub mod WrittenAlike
pub mod Statuses
mod Messages
mod Arrays
