pub mod Shown
pub mod Ways
