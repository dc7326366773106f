pub mod Walk
pub mod Orders
pub mod Standing
pub mod Marks
