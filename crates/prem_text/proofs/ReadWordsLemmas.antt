pub mod PhraseWords
pub mod StatementWords
pub mod ProgramWords
mod Examples
