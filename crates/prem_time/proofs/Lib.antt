pub mod DeadlinesLemmas
pub mod Fits
pub mod WordsAre
pub mod NamedDevices
pub mod Serving
pub mod DevicesAre
pub mod ClosingsFit
pub mod Rows
pub mod Headline
pub mod LoadsAre
pub mod Stages
pub mod PromisesAre
pub mod Tool
mod Sample
pub mod WaitSample
mod Worked
