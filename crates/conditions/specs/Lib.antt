pub mod Steps
pub mod Conditions
