pub mod Words
pub mod Turns
pub mod Short
pub mod Cases
