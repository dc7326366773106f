pub mod Tellings
pub mod Running
pub mod SetLaws
pub mod RunSound
pub mod Sample
pub mod Mail
