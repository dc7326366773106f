pub mod StageOf
pub mod Ends
pub mod Taking
