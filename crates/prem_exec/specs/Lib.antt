pub mod Forms
pub mod Exec
pub mod Sources
