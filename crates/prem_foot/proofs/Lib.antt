pub mod RunLaws
pub mod Counting
pub mod Regions
pub mod PlaceLaws
pub mod PlacesAre
pub mod Standing
pub mod ByText
