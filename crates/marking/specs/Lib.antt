pub mod Label
pub mod Marks
pub mod Members
pub mod Checked
pub mod Sited
pub mod Examples
pub mod inner
