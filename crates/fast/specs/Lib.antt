pub mod Reached
pub mod Entry
pub mod InSlices
pub mod Promise
pub mod PromiseLaws
