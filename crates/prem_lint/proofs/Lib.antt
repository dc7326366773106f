pub mod Chains
pub mod Tool
pub mod Linting
pub mod Stated
pub mod Texts
pub mod First
