pub mod Stages
pub mod SourcesLemmas
pub mod Behind
