pub mod Chosen
pub mod Arrived
pub mod Choice
