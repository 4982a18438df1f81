pub mod Arms
pub mod Told
pub mod Ended
