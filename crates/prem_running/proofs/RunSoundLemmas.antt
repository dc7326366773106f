pub mod Reports
pub mod SetRuns
pub mod Sample
