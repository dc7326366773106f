pub mod Behind
pub mod Counting
pub mod Bridge
pub mod Taking
pub mod ByParts
pub mod Sharing
pub mod Steps
pub mod Placings
pub mod Moved
pub mod Wanted
pub mod Sets
pub mod Shapes
mod Rows
