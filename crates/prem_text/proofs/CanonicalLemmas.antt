pub mod Examples
pub mod Parts
pub mod Expressions
pub mod Shaped
pub mod Statements
pub mod Items
pub mod Sayable
pub mod StatementsSaid
pub mod ItemsSaid
pub mod Aside
pub mod Spelled
pub mod Read
pub mod Fewest
mod Instances
