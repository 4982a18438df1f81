pub mod UseLaws
pub mod FlagLaws
pub mod LookLaws
