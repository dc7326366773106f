pub mod TableLaws
pub mod StepRows
pub mod Plain
pub mod DepthsAre
pub mod PlanLaws
pub mod PlansAre
pub mod MayHave
