pub mod Numbers
pub mod Lawful
pub mod Told
pub mod Texts
pub mod Samples
