pub mod Grows
pub mod Totals
pub mod Releases
pub mod Early
pub mod First
pub mod Periods
pub mod Enough
pub mod Steps
mod Rows
