pub mod Table
pub mod Fresh
pub mod ClockLine
pub mod PlaceLine
pub mod Letters
pub mod SignalLine
