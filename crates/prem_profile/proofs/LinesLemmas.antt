pub mod Words
pub mod Blocks
pub mod Before
mod Rows
