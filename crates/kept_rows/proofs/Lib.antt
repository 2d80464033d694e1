mod Drawn
mod Reading
mod Ties
