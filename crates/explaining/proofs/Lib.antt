pub mod RuleLaws
pub mod TickLaws
