pub mod Prelude
pub mod Seeing
pub mod Ranges
pub mod Regions
pub mod Notes
pub mod Writing
pub mod Rules
