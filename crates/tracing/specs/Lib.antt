pub mod Reached
pub mod Read
pub mod Next
pub mod Found
