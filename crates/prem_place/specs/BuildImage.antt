pub mod Built
pub mod Laid
