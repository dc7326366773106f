pub mod Passing
pub mod Lawful
pub mod Fine
pub mod Reading
pub mod There
