pub mod SizeLaws
pub mod FileLaws
pub mod JoinLaws
