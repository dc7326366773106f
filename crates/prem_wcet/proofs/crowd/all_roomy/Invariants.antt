use Rattle.std.specs.Prelude.{◌≡◌, ◌%◌, drop, nat_le, slice_index}
use Rattle.std.specs.List.{list_all}
use Rattle.prem_wcet.proofs.crowd.all_roomy.Given as goal

-- all of the rest have room as all do
abbrev pub invariant-loop-n : goal.invariant-loop-n
invariant-loop-n l = list_all (λ n. nat_le (slice_index l.counts (n % l.sets)) l.room) (drop l.n-index l.lines) ≡ list_all (λ n. nat_le (slice_index l.counts (n % l.sets)) l.room) l.lines
