pub mod Scale
pub mod TableOf
pub mod Told
pub mod Laws
pub mod Counts
pub mod Facts
pub mod Turns
pub mod ToldSums
