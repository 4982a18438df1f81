pub mod ArrivedLaws
