pub mod Lines
pub mod Numbers
pub mod Cut
pub mod Spelled
pub mod Chain
pub mod Failing
pub mod Hexadecimal
