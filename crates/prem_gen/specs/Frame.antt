pub mod FrameOf
pub mod Bounded
