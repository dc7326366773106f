use Rattle.std.proofs.Common.{◌≡◌, ◌++◌, map, drop, flat_map}
use Rattle.prem_analysis.proofs.Prelude.{area_of, items_of, region_of}
use Rattle.prem_analysis.proofs.MarksLemmas.Stated.{stated}
use Rattle.prem_analysis.proofs.marks.areas.areas_of.Given as goal

abbrev pub invariant-loop-region : goal.invariant-loop-region
invariant-loop-region l = map area_of (items_of l.areas) ++ flat_map (stated l.globals) (map region_of (drop l.region-index l.regions)) ≡ flat_map (stated l.globals) (map region_of l.regions)
