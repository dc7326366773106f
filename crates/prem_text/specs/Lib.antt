pub mod Prelude
pub mod Lexing
pub mod Texts
pub mod Spelling
pub mod Grammar
pub mod Canonical
pub mod ReadWords
