pub mod Words
pub mod Fitting
