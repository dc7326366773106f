pub mod StepRows
pub mod StepLaws
pub mod ItemLaws
