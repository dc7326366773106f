pub mod Clashes
pub mod FactOf
pub mod Large
pub mod Laws
