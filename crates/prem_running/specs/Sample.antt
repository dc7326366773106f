pub mod Draws
pub mod Trace
pub mod Sample
