-- The areas that regions state, one by one.
use Rattle.std.proofs.Common.{◌≡◌, List, ◌∷◌, ◌++◌, map, ap, ◌∙◌, flat_map}
use Rattle.prem_analysis.proofs.Prelude.{Area, find_named, RegionText, GlobalVariable, global_of, region_of, Global, Region, append_assoc, Bor}
use Rattle.prem_ranges.specs.Regions.{area_of}

-- the area of a region among globals
abbrev pub stated : List (Bor Global) → RegionText → List Area
stated gs r = area_of r (find_named (λ (g : GlobalVariable). g.name) r.name 0 (map (λ g. global_of g.now) gs))

pub one_more : (gs : List (Bor Global)) (old new : List Area) (r : Region) (rest : List Region) → new ≡ old ++ stated gs (region_of r) →
    new ++ flat_map (stated gs) (map region_of rest) ≡ old ++ flat_map (stated gs) (map region_of (r ∷ rest))
one_more gs old new r rest is = ap (λ x. x ++ flat_map (stated gs) (map region_of rest)) is ∙ append_assoc old (stated gs (region_of r)) (flat_map (stated gs) (map region_of rest))
