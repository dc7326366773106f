pub mod Sizes
pub mod Ground
pub mod Tasks
pub mod Turns
pub mod Areas
pub mod Whole
