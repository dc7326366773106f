-- Sums of counts that end at a limit.
use Rattle.std.proofs.Common.{◌≡◌, ℕ, ◌+◌, arith, min}
use Rattle.prem_gen.specs.Codes.Loops.{most_loops}

pub capped_sum : (x y : ℕ) → min (min x most_loops + min y most_loops) most_loops ≡ min (x + y) most_loops
capped_sum x y = omega arith

pub capped_next : (y : ℕ) → min (1 + min y most_loops) most_loops ≡ min (1 + y) most_loops
capped_next y = omega arith
