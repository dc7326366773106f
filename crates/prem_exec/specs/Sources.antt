pub mod Sources
pub mod There
