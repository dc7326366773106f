pub mod Prelude
pub mod Sides
pub mod States
pub mod PairFields
pub mod BothOf
pub mod MayStretch
pub mod Cycles
pub mod Laws
