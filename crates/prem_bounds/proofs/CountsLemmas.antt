pub mod Below
pub mod StepCounts
