pub mod Unstated
pub mod Stated
pub mod Annotating
mod UnplacedNames
mod UnplacedRuns
mod UnplacedRanges
mod UnplacedCode
mod UnplacedSeen
mod UnplacedBounds
mod BoundsStay
mod Stays
mod Reading
mod Lawful
mod Nameless
mod Lengthening
mod Stages
mod Annotated
mod Kept
mod Sample
mod Promise
mod Tool
