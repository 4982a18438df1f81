pub mod Listed
pub mod Ways
pub mod Told
pub mod Longer
