use Rattle.std.proofs.Common.{◌≡◌, take, map}
use Rattle.prem_tiling.proofs.Prelude.{items_of, region_of, narrowed_region, loop_in}
use Rattle.prem_tiling.proofs.copies.cut.narrowed_regions.Given as goal

abbrev pub invariant-loop-region : goal.invariant-loop-region
invariant-loop-region s = map region_of (items_of s.copies) ≡ map (narrowed_region (loop_in s.l) s.first s.last) (map region_of (take s.region-index s.regions))
