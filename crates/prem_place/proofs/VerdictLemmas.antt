pub mod Names
pub mod Stages
pub mod Blames
pub mod Marks
pub mod Large
pub mod Turns
pub mod FactTurns
pub mod BoundTurns
