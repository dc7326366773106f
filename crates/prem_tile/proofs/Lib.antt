pub mod CuttingLemmas
