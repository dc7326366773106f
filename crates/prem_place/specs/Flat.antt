pub mod Flat
pub mod Blocks
