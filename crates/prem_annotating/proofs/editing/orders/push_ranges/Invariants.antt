use Rattle.std.proofs.Common.{◌≡◌, ◌++◌, map, drop}
use Rattle.prem_annotating.proofs.Prelude.{order_of, orders_from, parameter_of}
use Rattle.prem_annotating.proofs.editing.orders.push_ranges.Given as goal

abbrev pub invariant-loop-i : goal.invariant-loop-i
invariant-loop-i l = map order_of l.orders.items ++ orders_from l.i (map parameter_of (drop l.i l.params)) l.wanted
    ≡ map order_of l.initial.orders.items ++ orders_from 0 (map parameter_of l.params) l.wanted
