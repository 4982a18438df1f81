pub mod Lex
pub mod Spans
pub mod Counted
pub mod Keywords
pub mod Signals
pub mod Firsts
