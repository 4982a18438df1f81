pub mod Outcome
pub mod Printed
pub mod Scratch
pub mod OutcomeLaws
pub mod Longer
