pub mod Sight
pub mod Walk
