pub mod Lexing
pub mod Examples
