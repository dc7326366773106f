pub mod Totals
pub mod Products
pub mod JobTurns
