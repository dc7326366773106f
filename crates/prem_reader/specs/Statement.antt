pub mod SlotOf
pub mod PointOf
pub mod Goings
