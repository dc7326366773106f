pub mod Spellings
pub mod Division
pub mod Spelled
