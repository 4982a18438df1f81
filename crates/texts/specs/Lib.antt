pub mod Text
pub mod Decimal
pub mod Wrote
pub mod WroteLaws
pub mod Under
