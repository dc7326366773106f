pub mod Prelude
pub mod Laws
pub mod Shapes
pub mod Copies
