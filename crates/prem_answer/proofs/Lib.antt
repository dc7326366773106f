pub mod Reading
pub mod Refused
pub mod Told
pub mod Written
