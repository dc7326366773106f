pub mod First
pub mod Blocks
pub mod Steps
pub mod Names
pub mod Taken
pub mod Around
pub mod Passed
pub mod LimitsFirst
