use Rattle.std.proofs.Common.{◌≡◌, take, map}
use Rattle.prem_tiling.proofs.Prelude.{items_of, region_of}
use Rattle.prem_tiling.proofs.copies.copy.copy_regions.Given as goal

abbrev pub invariant-loop-r : goal.invariant-loop-r
invariant-loop-r l = map region_of (items_of l.copies) ≡ map region_of (take l.r-index l.rs)
