pub mod Refused
pub mod RuleLine
pub mod Line
pub mod Lines
pub mod Counts
pub mod Stored
pub mod Promise
