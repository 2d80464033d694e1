pub mod Converted
pub mod FitValues
pub mod FlatJson
pub mod Lookup
pub mod SoundParts
pub mod Written
