pub mod Stages
pub mod Statuses
pub mod Tool
pub mod Refusal
