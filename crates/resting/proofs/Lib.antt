pub mod Leads
pub mod Live
pub mod Clear
pub mod Always
