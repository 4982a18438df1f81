pub mod Sift
pub mod Clean
pub mod Flags
pub mod Flagged
pub mod Code
