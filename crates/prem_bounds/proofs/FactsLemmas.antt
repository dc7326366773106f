pub mod FirstLaws
pub mod LargeLaw
pub mod Clashes
