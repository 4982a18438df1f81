pub mod Tags
pub mod Promise
pub mod BySignals
pub mod Laws
