pub mod Lengths
pub mod Unplaced
pub mod Written
pub mod Steps
pub mod Kept
pub mod Promised
pub mod Answers
