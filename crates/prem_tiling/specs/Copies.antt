pub mod Copied
pub mod ShapeOf
pub mod AddedOf
pub mod Flags
pub mod Walk
pub mod StaleOf
pub mod CutOf
pub mod Named
