pub mod PartsThere
pub mod Naming
pub mod Flattened
pub mod Bounded
pub mod Limits
