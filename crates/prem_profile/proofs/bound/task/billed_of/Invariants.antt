use Rattle.std.proofs.Common.{◌≡◌, ◌≤◌, length}
use Rattle.prem_list.specs.Sequence.{items_of}
use Rattle.prem_place.specs.Placed.PlacedOf.{coded_of, plans_of, routines_of}
use Rattle.prem_wcet.specs.KnownOf.{AreKnownTo, faces_in}
use Rattle.prem_wcet.specs.Lengths.{stated_in, with_lengths}
use Rattle.prem_profile.proofs.BillLemmas.Known.{AreBilledTo}
use Rattle.prem_profile.proofs.bound.task.billed_of.Given as goal

-- what is known of the first functions, and what calls of them are billed
abbrev pub invariant-loop-n : goal.invariant-loop-n
invariant-loop-n l =
    record {
      inside : l._n ≤ length (items_of l.t.table.code);
      faces : l.billed.known.faces.items ≡ faces_in (routines_of l.t) (stated_in l.t);
      known : AreKnownTo l.p (with_lengths (stated_in l.t) (plans_of l.t)) (coded_of l.t).program l.t.places (items_of l.t.table.code) l._n l.billed.known.facts.items l.billed.known.costs;
      calls : AreBilledTo l.p l.t l.task (stated_in l.t) l._n l.billed.calls.items;
    }
