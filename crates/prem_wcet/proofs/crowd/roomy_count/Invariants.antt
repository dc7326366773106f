use Rattle.std.specs.Prelude.{◌≡◌, ◌≤◌, ◌+◌, ◌%◌, drop, filter, length, nat_le, slice_index}
use Rattle.prem_wcet.proofs.crowd.roomy_count.Given as goal

-- what is counted, and what the rest counts
abbrev pub invariant-loop-n : goal.invariant-loop-n
invariant-loop-n l =
    record {
      rest : l.count + length (filter (λ n. nat_le (slice_index l.counts (n % l.sets)) l.room) (drop l.n-index l.lines))
          ≡ length (filter (λ n. nat_le (slice_index l.counts (n % l.sets)) l.room) l.lines);
      small : l.count ≤ l.n-index;
    }
