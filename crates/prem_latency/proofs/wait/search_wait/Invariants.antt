use Rattle.std.proofs.Common.{ℕ, ◌≡◌, ◌+◌, ◌-◌, ◌≤◌}
use Rattle.prem_latency.specs.Wait.{IsRoom}
use Rattle.prem_latency.specs.Turns.{counted, cycles_behind, first_cycles}
use Rattle.prem_latency.proofs.Turns.{Begun, Turned}
use Rattle.prem_latency.proofs.wait.search_wait.Given as goal

-- the cycles so far are those behind the turns so far, which began with fewer, no number of cycles that is enough is less than these, and
-- each turn has counted one more request or job
abbrev pub invariant-loop-cycles : goal.invariant-loop-cycles
invariant-loop-cycles l = record {
  some : 1 ≤ l.cycles;
  at : l.cycles ≡ cycles_behind l.devices l.tasks l.d l.turns;
  begun : Begun l.devices l.tasks l.d l.most l.cycles l.turns;
  least : (other : ℕ) → IsRoom l.devices l.tasks l.d other → l.cycles ≤ other;
  turned : Turned l.devices l.tasks l.d (first_cycles l.devices l.tasks l.d) l.cycles l.turns;
  few : l.turns ≤ 2 + counted l.devices l.tasks l.d l.most - counted l.devices l.tasks l.d (first_cycles l.devices l.tasks l.d);
  small : l.turns ≤ l.cycles;
}

abbrev pub decreases-loop-cycles : goal.decreases-loop-cycles
decreases-loop-cycles l = l.most + 1 - l.cycles
