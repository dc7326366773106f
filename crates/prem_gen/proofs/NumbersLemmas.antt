pub mod Numbers
pub mod Breaches
pub mod Resolving
pub mod StepTrees
