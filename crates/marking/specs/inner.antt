pub mod Pass
