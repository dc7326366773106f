use Rattle.std.proofs.Common.{◌≡◌, ◌≤◌, length, map, drop}
use Rattle.prem_annotate.proofs.Prelude.{elements_of, with_touches, touch_of}
use Rattle.prem_annotate.proofs.regions.elements.add_touches.Given as goal

abbrev pub invariant-loop-n : goal.invariant-loop-n
invariant-loop-n l =
    record {
      elements_are : elements_of l.all ≡ with_touches (map touch_of (drop l.n l.touches)) (elements_of l.initial.all);
      within : l.n ≤ length l.touches;
    }

abbrev pub decreases-loop-n : goal.decreases-loop-n
decreases-loop-n l = l.n
