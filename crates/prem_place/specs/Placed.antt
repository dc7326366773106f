pub mod PlacedOf
