pub mod Examples
pub mod Cutting
pub mod Capped
pub mod Spelled
pub mod Decimals
pub mod Chain
