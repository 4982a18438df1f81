pub mod Index
pub mod Names
pub mod Sections
pub mod Entry
