use Rattle.std.proofs.Common.{◌≡◌, ◌++◌, map, drop}
use Rattle.prem_annotate.proofs.Prelude.{elements_of, regions_around, items_of, global_of, region_of}
use Rattle.prem_annotate.proofs.regions.found.regions_around.Given as goal

abbrev pub invariant-loop-k : goal.invariant-loop-k
invariant-loop-k l =
    map region_of (items_of l.all) ++ regions_around l.at (map (λ g. global_of g.now) (drop l.k l.globals)) (elements_of (drop l.k l.elements))
    ≡ regions_around l.at (map (λ g. global_of g.now) l.globals) (elements_of l.elements)
