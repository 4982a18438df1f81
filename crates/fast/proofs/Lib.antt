pub mod PromiseLaws
pub mod Laws
