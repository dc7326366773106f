pub mod Runs
pub mod Told
pub mod PlacesOf
pub mod PlacesFrom
pub mod Laws
pub mod Standing
pub mod Texts
