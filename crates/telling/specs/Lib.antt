pub mod Every
pub mod Asked
pub mod Told
pub mod Between
pub mod Prints
