pub mod Build
pub mod Moving
