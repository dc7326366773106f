pub mod Writing
mod Blocks
