use Rattle.std.proofs.Common.{◌≡◌, map, drop}
use Rattle.prem_names.specs.Reach.Reach.{with_new}
use Rattle.prem_names.proofs.reach.with_called.Given as goal

abbrev pub invariant-loop-k : goal.invariant-loop-k
invariant-loop-k l = with_new (map (λ ks. ks.items) (drop l.k l.table)) l.before l.set l.k 0 l.next.items ≡ with_new (map (λ ks. ks.items) l.table) l.before l.set 0 0 l.set
