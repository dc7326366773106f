pub mod WcetLemmas
mod Divides
mod Shuts
mod Periods
mod Enough
pub mod Found
mod Shares
mod Rooms
mod Turns
mod BusUses
mod Rows
mod Begins
mod Steps
mod Scheduled
pub mod GoesOn
mod Traces
mod Counts
mod Blames
mod Serving
mod Dropped
mod Accounts
mod AccountMoves
mod AccountRuns
mod Closes
mod Openings
mod CallOpenings
mod Charged
mod Given
mod Spans
mod Instance
mod JoinedRuns
mod JoinedTasks
mod WeaveOpens
pub mod SetDevices
pub mod SetWaits
pub mod SetSample
