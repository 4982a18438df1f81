pub mod ToFile
pub mod ToText
pub mod Ways
pub mod Told
pub mod Longer
