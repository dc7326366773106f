use Rattle.std.proofs.Common.{◌≡◌, map}
use Rattle.prem_profile.specs.Calls.{HasWideRoom, calls_of, narrow, with_calls}
use Rattle.prem_profile.proofs.calls.book_calls.Given as goal

-- what is left gives what all give
abbrev pub invariant-calls : goal.invariant-calls
invariant-calls l = record {
  room : HasWideRoom l.left (map narrow l.costs.items) l.cost;
  booked :
      with_calls (map narrow l.costs.items) (calls_of l.left l.table.functions.items l.callers l.at) l.cost
      ≡ with_calls (map narrow l.initial.costs.items) (calls_of l.table.most l.table.functions.items l.callers l.row) l.cost;
}

abbrev pub decreases-calls : goal.decreases-calls
decreases-calls l = l.left
