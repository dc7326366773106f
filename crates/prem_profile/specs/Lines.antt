pub mod Table
pub mod Memory
pub mod Laws
pub mod Marks
pub mod Tasks
pub mod Told
