use Rattle.std.proofs.Common.{◌≡◌, ◌+◌, ◌∷◌, ◌++◌, map, drop, ap, sym, ◌∙◌, arith, List, flat_map}
use Rattle.prem_analysis.proofs.Prelude.{area_of, items_of, region_of, Region, drop_more}
use Rattle.prem_analysis.proofs.MarksLemmas.Stated.{stated, one_more}
use Rattle.prem_analysis.proofs.marks.areas.areas_of.Goals as goal

pub loop-region-preserved : goal.loop-region-preserved
loop-region-preserved c =
    let gs = c.args.globals.now in
    let rs = c.args.regions.now in
    let i = c.loop-region.region-index in
    let r = c.region-item.result in
    let old = map area_of (items_of c.loop-region.areas) in
    let left : drop i rs ≡ r ∷ drop (i + 1) rs = drop_more rs i r (omega arith) ∙ ap (λ x. x ∷ drop (i + 1) rs) (sym c.region-item.is) in
    one_more gs old (map area_of (items_of c.add_area.new.areas)) r (drop (i + 1) rs) c.in_ok-add_area.ensures
    ∙ ap (λ (xs : List Region). old ++ flat_map (stated gs) (map region_of xs)) (sym left) ∙ c.loop-region.invariant
