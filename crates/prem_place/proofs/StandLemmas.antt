pub mod Lying
pub mod TaskParts
