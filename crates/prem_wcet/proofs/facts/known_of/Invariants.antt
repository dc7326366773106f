use Rattle.std.proofs.Common.{◌≡◌, ◌≤◌, length}
use Rattle.prem_list.specs.Sequence.{items_of}
use Rattle.prem_place.specs.Placed.PlacedOf.{coded_of, plans_of, routines_of}
use Rattle.prem_wcet.specs.KnownOf.{AreKnownTo, faces_in}
use Rattle.prem_wcet.specs.Lengths.{with_lengths}
use Rattle.prem_wcet.proofs.facts.known_of.Given as goal

-- what is known of the first functions
abbrev pub invariant-loop-n : goal.invariant-loop-n
invariant-loop-n l =
    record {
      inside : l._n ≤ length (items_of l.t.table.code);
      faces : l.known.faces.items ≡ faces_in (routines_of l.t) l.lengths;
      known : AreKnownTo l.p (with_lengths l.lengths (plans_of l.t)) (coded_of l.t).program l.t.places (items_of l.t.table.code) l._n l.known.facts.items l.known.costs;
    }
