pub mod PositionLemmas
pub mod InputsLemmas
pub mod WindowLemmas
pub mod TransferLemmas
pub mod DullLemmas
