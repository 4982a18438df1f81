pub mod ChooserLaws
pub mod TableLaws
