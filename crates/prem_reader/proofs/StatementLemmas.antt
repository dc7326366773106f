pub mod Rows
pub mod Blocks
pub mod Starts
pub mod Within
