pub mod Called
pub mod Entries
