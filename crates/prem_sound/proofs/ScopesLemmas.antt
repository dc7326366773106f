pub mod Misses
pub mod Credits
pub mod ChargeRuns
pub mod Alone
pub mod Totals
pub mod StrandRuns
pub mod StrandLaws
pub mod Parting
mod Rows
pub mod Tests
pub mod Worked
