pub mod Printable
pub mod Readable
pub mod Whole
pub mod Stages
