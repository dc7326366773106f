pub mod Named
pub mod There
pub mod Longest
pub mod Laws
