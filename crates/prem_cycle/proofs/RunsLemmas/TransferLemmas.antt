pub mod Bus
pub mod Cycles
pub mod Examples
