pub mod Conversion
pub mod Laws
pub mod Examples
