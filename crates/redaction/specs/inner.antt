pub mod SoFar
pub mod Bodies
pub mod Trees
pub mod Labels
pub mod Among
