use Rattle.std.proofs.Common.{◌≡◌, ◌+◌, ◌∷◌, map, drop, ap, sym, ◌∙◌, arith}
use Rattle.std.proofs.lemmas.List.{drop_more}
use Rattle.prem_syntax.specs.Name.{name_bytes}
use Rattle.prem_syntax.specs.SyntaxOf.{region_of}
use Rattle.prem_syntax.specs.Resolve.{find_global}
use Rattle.prem_syntax.specs.Rules.{first, first_of}
use Rattle.prem_syntax.specs.Breaches.{in_region, in_regions}
use Rattle.prem_names.specs.Scopes.{scope_of}
use Rattle.prem_check.specs.FoundOf.{found_of}
use Rattle.prem_check.proofs.Steps.{next}
use Rattle.prem_check.proofs.global.in_regions.Goals as goal

pub loop-region-preserved : goal.loop-region-preserved
loop-region-preserved c =
    let scope = scope_of c.args.names.now in
    let rs = c.args.regions.now in
    let i = c.loop-region.region-index in
    let r = c.region-item.result in
    let old = found_of c.loop-region.found in
    let left : drop i rs ≡ r ∷ drop (i + 1) rs = drop_more rs i r (omega arith) ∙ ap (λ x. x ∷ drop (i + 1) rs) (sym c.region-item.is) in
    next old (found_of c.earlier-found.result) (in_region (region_of r) (find_global scope (name_bytes r.name))) (in_regions scope (map region_of (drop (i + 1) rs)))
    (c.earlier-found.ensures ∙ ap (first old) c.in_region.ensures)
    ∙ ap (λ xs. first old (first_of (in_regions scope (map region_of xs)))) (sym left) ∙ c.loop-region.invariant
