pub mod Limited
pub mod Texts
