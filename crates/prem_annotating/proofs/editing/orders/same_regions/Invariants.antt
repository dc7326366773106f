use Rattle.std.proofs.Common.{◌≡◌, map, drop}
use Rattle.prem_annotating.proofs.Prelude.{same_regions}
use Rattle.prem_syntax.specs.SyntaxOf.{region_of}
use Rattle.prem_annotating.proofs.editing.orders.same_regions.Given as goal

abbrev pub invariant-loop-i : goal.invariant-loop-i
invariant-loop-i l = same_regions (map region_of (drop l.i l.old)) (map region_of (drop l.i l.wanted)) ≡ same_regions (map region_of l.old) (map region_of l.wanted)
