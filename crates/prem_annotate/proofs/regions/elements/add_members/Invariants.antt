use Rattle.std.proofs.Common.{◌≡◌, ◌≤◌, length, map, drop}
use Rattle.prem_annotate.proofs.Prelude.{outlook_of, elements_of, with_members}
use Rattle.prem_annotate.proofs.regions.elements.add_members.Given as goal

abbrev pub invariant-loop-n : goal.invariant-loop-n
invariant-loop-n l =
    record {
      elements_are : elements_of l.all ≡ with_members l.set l.n (map outlook_of (drop l.n l.outlooks)) (elements_of l.initial.all);
      within : l.n ≤ length l.outlooks;
    }

abbrev pub decreases-loop-n : goal.decreases-loop-n
decreases-loop-n l = l.n
