pub mod Trail
pub mod Pieces
