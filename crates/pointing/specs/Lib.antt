pub mod RuleAt
pub mod NameAt
pub mod Short
pub mod Said
