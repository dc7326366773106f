-- The strips of parts, one part after another.
use Rattle.std.specs.Prelude.{slice_get}
use Rattle.std.proofs.Common.{◌≡◌, ℕ, zero, suc, ◌+◌, ◌<◌, List, [], ◌∷◌, ◌++◌, Option, length, drop, get_or, refl, ap, sym, ◌∙◌, arith, append_assoc}
use Rattle.prem_plant.specs.declared.layout.PartSize.{PartSize}
use Rattle.prem_plant.specs.Places.{Extent}
use Rattle.prem_syntax.specs.Syntax.{Text}
use Rattle.prem_profile.specs.Lines.Tasks.{TaskLines}
use Rattle.prem_profile.specs.Sets.{first_name, part_strips, parts_strips, rest_names}
use Rattle.prem_profile.specs.Strips.{Strip}

part_next : (d : PartSize) (xs : List PartSize) (k : ℕ) → k < length xs → drop k xs ≡ get_or xs k d ∷ drop (k + 1) xs
part_next d [] k lt = absurd (omega (arith, lt))
part_next d (x ∷ xs) zero lt = refl
part_next d (x ∷ xs) (suc k) lt =
    let e : suc (k + 1) ≡ suc k + 1 = omega arith in part_next d xs k (omega (arith, lt)) ∙ ap (λ m. get_or xs k d ∷ drop m (x ∷ xs)) e

pub next_parts : (d : PartSize) (tasks : List TaskLines) (places : List Extent) (items all : List PartSize) (names rest : List Text) (n k : ℕ)
    (old new whole : List Strip) (name : Text) (place : Option Extent) →
    items ≡ all → k < length items → place ≡ slice_get places n → name ≡ first_name names → rest ≡ rest_names names →
    new ≡ old ++ part_strips tasks (get_or items k d) name place → old ++ parts_strips tasks places n (drop k all) names ≡ whole →
    new ++ parts_strips tasks places (n + 1) (drop (k + 1) all) rest ≡ whole
next_parts d tasks places items all names rest n k old new whole name place ei lt ep en er enew e =
    let part = get_or items k d in
    let behind : List Strip = parts_strips tasks places (n + 1) (drop (k + 1) all) (rest_names names) in
    let next : drop k all ≡ part ∷ drop (k + 1) all = ap (drop k) (sym ei) ∙ part_next d items k lt ∙ ap (λ ps. part ∷ drop (k + 1) ps) ei in
    (λ i. enew i ++ parts_strips tasks places (n + 1) (drop (k + 1) all) (er i)) ∙ append_assoc old (part_strips tasks part name place) behind
    ∙ (λ i. old ++ (part_strips tasks part (en i) (ep i) ++ behind)) ∙ ap (λ ps. old ++ parts_strips tasks places n ps names) (sym next) ∙ e
