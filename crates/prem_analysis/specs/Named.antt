-- The numbers and ranges that breaches of the rules on ranges name.
use Rattle.std.specs.Prelude.{ℕ, ◌<◌, ⊤, ◌≤ℤ◌}
use Rattle.prem_analysis.specs.Prelude.{RangeRule, RegionOutside, ArgRange}

-- functions and globals below these counts, and stated ranges that hold a number
abbrev pub Named : ℕ → ℕ → RangeRule → Type 0
Named functions globals (RegionOutside function elements global) = (function < functions) × (global < globals)
Named functions globals (ArgRange argument stated) = stated.lo ≤ℤ stated.hi
Named functions globals rule = ⊤
