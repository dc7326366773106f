pub mod FoundOf
pub mod AroundOf
pub mod Taken
pub mod Walk
pub mod Told
