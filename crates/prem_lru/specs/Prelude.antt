-- What the files of this crate's specs name of other modules, so that each imports it from one place.
pub use Rattle.prem_plant.specs.Order.Order.{AreOnce, OrderRule, is_in}
pub use Rattle.prem_plant.specs.Order.Orders.{AreWays, Orders, order_at, ways_below}
pub use Rattle.prem_plant.specs.Ranges.{IsPlant}
pub use Rattle.prem_plant.specs.declared.plant.Plant.{Plant}
pub use Rattle.prem_plant.specs.declared.plant.Replacement.{Replacement}
