pub mod Flats
pub mod BlockLaws
