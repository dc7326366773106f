pub mod Prelude
pub mod LawsLemmas
pub mod ShapesLemmas
pub mod CopiesLemmas
