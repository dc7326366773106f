pub mod Lexeme
pub mod Reading
