pub mod Gathered
pub mod Sums
pub mod Spread
pub mod Charged
pub mod Statements
pub mod Passages
pub mod Tasks
pub mod Booked
pub mod Profile
mod Rows
mod Words
