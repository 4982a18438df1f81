pub mod Laws
pub mod DecidedLaws
pub mod RuleLaws
