pub mod Rowing
pub mod Shared
