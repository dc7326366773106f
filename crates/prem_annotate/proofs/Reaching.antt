-- Regions by what is found of functions are those that are reached.
use Rattle.std.proofs.Common.{◌≡◌, ℕ, zero, suc, ◌+◌, ◌<◌, ◌≤◌, drop, Bool, true, false, cond, List, [], ◌∷◌, ◌++◌, length, map, refl, ap, sym, ◌∙◌, arith, Option, None}
use Rattle.std.specs.Prelude.{◌==◌}
use Rattle.prem_annotate.proofs.Prelude.{outlook, at_number, elements_of as elements_in_memory, widened, with_touch, with_touches, with_touches_if, with_members, regions_around, no_elements}
use Rattle.prem_annotate.proofs.Prelude.{regions_found, join_all, elements_if, elements_in, regions_from, regions_reached, touches_of, GlobalAccess, is_in, callee_table, reach_set, Routine}
use Rattle.prem_annotate.proofs.Prelude.{RegionText, GlobalVariable, Place, Span, nat_tests, append-nil, append_assoc, drop_all, flat_map}
use Rattle.prem_analysis.specs.declared.ranging.range.Range.{Range}
use Rattle.prem_annotating.specs.Reached.{elements_of, region_of}

-- for each global the least range around some
abbrev joins : (ℕ → List Span) → ℕ → List GlobalVariable → List (Option Span)
joins spans g [] = []
joins spans g (v ∷ vs) = join_all (spans g) ∷ joins spans (g + 1) vs

abbrev with_one : GlobalAccess → (ℕ → List Span) → ℕ → List Span
with_one t spans g = elements_of g t ++ spans g

abbrev join_if : Bool → Span → List Span → Option Span
join_if b r rs = join_all (cond b (r ∷ []) [] ++ rs)

joined_past : (t : GlobalAccess) (spans : ℕ → List Span) (g : ℕ) (vs : List GlobalVariable) → t.global < g → joins (with_one t spans) g vs ≡ joins spans g vs
joined_past t spans g [] lt = refl
joined_past t spans g (v ∷ vs) lt =
    let other : (t.global == g) ≡ false = grind (arith, nat_tests) in
    let rest = joined_past t spans (g + 1) vs (omega arith) in
    λ i. join_if (other i) t.elements (spans g) ∷ rest i

joined_hit : (t : GlobalAccess) (spans : ℕ → List Span) (g k : ℕ) (vs : List GlobalVariable) → t.global ≡ g + k → at_number k (widened t.elements) (joins spans g vs) ≡ joins (with_one t spans) g vs
joined_hit t spans g zero [] e = refl
joined_hit t spans g (suc k) [] e = refl
joined_hit t spans g zero (v ∷ vs) e =
    let same : (t.global == g) ≡ true = grind (arith, nat_tests) in
    let rest = joined_past t spans (g + 1) vs (omega arith) in
    λ i. join_if (sym same i) t.elements (spans g) ∷ sym rest i
joined_hit t spans g (suc k) (v ∷ vs) e =
    let other : (t.global == g) ≡ false = grind (arith, nat_tests) in
    let rest = joined_hit t spans (g + 1) k vs (omega arith) in
    λ i. join_if (sym other i) t.elements (spans g) ∷ rest i

touches_joined : (ts : List GlobalAccess) (spans : ℕ → List Span) (gs : List GlobalVariable) → with_touches ts (joins spans 0 gs) ≡ joins (λ g. flat_map (elements_of g) ts ++ spans g) 0 gs
touches_joined [] spans gs = refl
touches_joined (t ∷ ts) spans gs =
    let behind : ℕ → List Span = λ g. flat_map (elements_of g) ts ++ spans g in
    ap (with_touch t) (touches_joined ts spans gs)
    ∙ joined_hit t behind 0 t.global gs (omega arith)
    ∙ ap (λ (s : ℕ → List Span). joins s 0 gs) (λ i g. sym (append_assoc (elements_of g t) (flat_map (elements_of g) ts) (spans g)) i)

none_joined : (g : ℕ) (gs : List GlobalVariable) → no_elements gs ≡ joins (λ k. []) g gs
none_joined g [] = refl
none_joined g (v ∷ vs) = ap (λ l. None ∷ l) (none_joined (g + 1) vs)

members_joined : (set : List Bool) (n : ℕ) (fs : List Routine) (gs : List GlobalVariable) → with_members set n (map outlook fs) (no_elements gs) ≡ joins (λ g. elements_in set g n fs) 0 gs
members_joined set n [] gs = none_joined 0 gs
members_joined set n (f ∷ fs) gs = by (is_in set n) (members_joined set (n + 1) fs gs)
  where
    by : (b : Bool) → with_members set (n + 1) (map outlook fs) (no_elements gs) ≡ joins (λ g. elements_in set g (n + 1) fs) 0 gs →
        with_touches_if b (touches_of f) (with_members set (n + 1) (map outlook fs) (no_elements gs)) ≡ joins (λ g. elements_if b g f ++ elements_in set g (n + 1) fs) 0 gs
    by true h = ap (with_touches (touches_of f)) h ∙ touches_joined (touches_of f) (λ g. elements_in set g (n + 1) fs) gs
    by false h = h

regions_joined : (at : Place) (fs : List Routine) (set : List Bool) (g : ℕ) (vs : List GlobalVariable) → regions_around at vs (joins (λ k. elements_in set k 0 fs) g vs) ≡ regions_from at fs set g vs
regions_joined at fs set g [] = refl
regions_joined at fs set g (v ∷ vs) = ap (λ l. region_of at v.name (join_all (elements_in set g 0 fs)) ++ l) (regions_joined at fs set (g + 1) vs)

pub regions_are : (at : Place) (gs : List GlobalVariable) (fs : List Routine) (n : ℕ) → regions_found at gs (callee_table fs) (map outlook fs) n ≡ regions_reached at gs fs n
regions_are at gs fs n =
    let set = reach_set (callee_table fs) n in
    ap (regions_around at gs) (members_joined set 0 fs gs) ∙ regions_joined at fs set 0 gs

-- ---- where nothing is left

no_regions : (at : Place) (gs : List GlobalVariable) → regions_around at gs [] ≡ []
no_regions at [] = refl
no_regions at (g ∷ gs) = refl

pub regions_end : (at : Place) (gs : List GlobalVariable) (es : List (Option Range)) (k : ℕ) (done whole : List RegionText) → length es ≤ k →
    done ++ regions_around at gs (elements_in_memory (drop k es)) ≡ whole → done ≡ whole
regions_end at gs es k done whole past left =
    sym (ap (λ (l : List (Option Range)). done ++ regions_around at gs (elements_in_memory l)) (drop_all k es past) ∙ ap (λ l. done ++ l) (no_regions at gs) ∙ append-nil done) ∙ left
