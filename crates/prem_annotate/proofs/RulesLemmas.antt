pub mod Tellable
pub mod Found
