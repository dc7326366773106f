pub mod Checked
pub mod Constant
pub mod StepMeaning
pub mod SourceRun
pub mod Resolve
pub mod State
