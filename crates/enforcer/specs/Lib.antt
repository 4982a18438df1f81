pub mod Entries
pub mod States
pub mod Refusals
pub mod AsRead
pub mod Promises
