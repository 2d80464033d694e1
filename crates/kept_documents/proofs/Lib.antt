mod Weights
mod Going
mod Edits
mod Told
mod Trees
mod Again
