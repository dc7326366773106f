pub mod Interpreter
pub mod Single
