pub mod LayLaws
pub mod PromiseLaws
