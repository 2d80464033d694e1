mod Passages
mod Parts
