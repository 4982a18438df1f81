pub mod Odd
pub mod Bays
pub mod Entries
pub mod Promises
pub mod Parts
pub mod There
pub mod Halves
pub mod Alone
