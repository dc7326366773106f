pub mod BusyLemmas
pub mod DeadlineLemmas
pub mod Fits
pub mod LoadsAre
pub mod Found
pub mod Endings
pub mod LengthLines
pub mod TaskLines
pub mod Headline
pub mod Stages
pub mod Tool
mod Sample
mod Rows
pub mod TimedLemmas
pub mod TimelyLemmas
