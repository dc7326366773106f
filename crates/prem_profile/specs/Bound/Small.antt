-- Bills whose numbers fit words of 64 bits.
use Rattle.std.specs.Prelude.{◌<◌, ◌≤◌, ◌^◌}
use Rattle.prem_profile.specs.Bound.Bills.{Bill, total}

-- no more instructions, lines that are brought in and lines that are written back than cycles, of which there are fewer than 2 ^ 64
pub record IsSmall (bill : Bill) : Type 0 where
  pub instructions : (total bill).instructions ≤ (total bill).cycles
  pub misses : (total bill).misses ≤ (total bill).cycles
  pub backs : (total bill).backs ≤ (total bill).cycles
  pub cycles : (total bill).cycles < 2 ^ 64
