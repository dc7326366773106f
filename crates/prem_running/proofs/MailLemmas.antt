pub mod Files
pub mod Stages
pub mod Told
pub mod Lines
pub mod Again
pub mod Sample
