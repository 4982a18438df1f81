pub mod Entries
pub mod Same
pub mod Promises
