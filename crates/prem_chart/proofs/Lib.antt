pub mod Within
pub mod Steps
pub mod Taken
pub mod Pictures
pub mod Noted
pub mod Traces
pub mod Charted
pub mod Far
pub mod Kept
mod Sample
pub mod AnyNamed
pub mod Asking
pub mod Tool
