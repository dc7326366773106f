pub mod Position
pub mod Inputs
pub mod Window
pub mod Transfer
pub mod Dull
