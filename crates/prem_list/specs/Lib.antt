pub mod Sequence
pub mod Lending
pub mod LendingItems
