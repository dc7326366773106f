pub mod Build
pub mod Colors
pub mod Tables
