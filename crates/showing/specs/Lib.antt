pub mod Declarations
pub mod Pieced
pub mod Lines
pub mod Entry
pub mod Promise
