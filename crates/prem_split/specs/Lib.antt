pub mod PlanOf
pub mod Tables
pub mod Walk
pub mod PlansWith
pub mod Laws
pub mod Texts
