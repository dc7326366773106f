use Rattle.std.proofs.Common.{◌≡◌, ◌≤◌, ◌++◌, ◌-◌, drop, length, map}
use Rattle.prem_color.specs.Claims.{grouped, share_of}
use Rattle.prem_color.proofs.claims.shares_of.Given as goal

abbrev pub invariant-loop-at : goal.invariant-loop-at
invariant-loop-at l = record { rest : map share_of l.shares.items ++ grouped (drop l.at l.claims) ≡ grouped l.claims; within : l.at ≤ length l.claims }

abbrev pub decreases-loop-at : goal.decreases-loop-at
decreases-loop-at l = length l.claims - l.at
