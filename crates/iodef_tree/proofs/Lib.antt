pub mod Views
pub mod Outlines
mod Growing
pub mod Sounds
mod Accepted
mod ValueTexts
mod Flat
mod Spines
pub mod Writing
mod Data
mod Each
mod Passed
mod Proven
mod Computed
mod Steps
pub mod NoFloat
mod TreeBack
mod JsonOf
pub mod Meaning
pub mod Order
pub mod Apart
pub mod Located
pub mod Siblings
pub mod Blocks
pub mod Distinct
pub mod Nearest
pub mod Normal
pub mod ReadBack
pub mod ReadSound
pub mod OneToOne
pub mod ByPath
pub mod Onward
pub mod Members
pub mod ClassesBelow
pub mod Fronts
pub use Rattle.json_pointer.proofs.Inverse
pub mod Seeking
pub mod Counts
pub mod FromValues
pub mod Converted
pub mod AscendingNames
pub mod Filled
pub mod Fitness
pub mod Shallow
pub mod Exchanged
pub mod DocumentLists
pub mod Bodies
mod MembersByName
pub mod Identified
