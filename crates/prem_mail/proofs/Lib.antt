pub mod FromInputs
pub mod Bringing
pub mod Stepping
pub mod Finds
pub mod Steps
pub mod Runs
pub mod Kept
pub mod Left
pub mod Beginning
pub mod Going
pub mod Gliding
pub mod TwoCalls
pub mod Lawful
pub mod Words
mod Rows
