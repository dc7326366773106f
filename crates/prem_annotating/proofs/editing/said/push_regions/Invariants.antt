use Rattle.std.proofs.Common.{◌≡◌, ◌++◌, map, drop}
use Rattle.prem_annotating.proofs.Prelude.{regions_spelled}
use Rattle.prem_syntax.specs.SyntaxOf.{region_of}
use Rattle.prem_annotating.proofs.editing.said.push_regions.Given as goal

abbrev pub invariant-loop-region : goal.invariant-loop-region
invariant-loop-region l = l.text.items ++ regions_spelled (map region_of (drop l.region-index l.regions)) ≡ l.initial.text.items ++ regions_spelled (map region_of l.regions)
