use Rattle.std.specs.List.{AllByRecursion}
use Rattle.std.proofs.Common.{◌≡◌, ◌++◌, map, drop}
use Rattle.prem_list.specs.Sequence.{items_of}
use Rattle.prem_color.specs.Standing.{RegionStands}
use Rattle.prem_color.specs.WantOf.{shape_in}
use Rattle.prem_color.specs.Wants.{region_want}
use Rattle.prem_color.proofs.wants.push_regions.Given as goal

abbrev pub invariant-loop-region : goal.invariant-loop-region
invariant-loop-region l =
    record {
      rest : items_of l.ranges ++ map (region_want (shape_in l.shape) l.first) (drop l.region-index l.regions) ≡ items_of l.initial.ranges ++ map (region_want (shape_in l.shape) l.first) l.regions;
      there : AllByRecursion (RegionStands l.sizes (shape_in l.shape) l.first) (drop l.region-index l.regions);
    }
