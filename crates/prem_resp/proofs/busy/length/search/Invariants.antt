use Rattle.std.proofs.Common.{◌≡◌, ◌≤◌, ℕ, ◌-◌}
use Rattle.prem_resp.specs.Busy.Busy.{load_at, demand, IsBalanced}
use Rattle.prem_resp.proofs.busy.length.search.Given as goal

-- no busy period is shorter than the cycles so far, and those have at least as much to do
abbrev pub invariant-loop-i : goal.invariant-loop-i
invariant-loop-i l = record {
  period : l.period ≡ (load_at l.loads l.i).period;
  within : l.cycles ≤ l.period;
  grows : l.cycles ≤ demand l.loads l.i l.cycles;
  least : (other : ℕ) → IsBalanced l.loads l.i other → l.cycles ≤ other;
}

abbrev pub decreases-loop-i : goal.decreases-loop-i
decreases-loop-i l = l.period - l.cycles
