-- Taking back the last local of a trail.
use Rattle.std.proofs.Common.{◌≡◌, ℕ, ◌≤◌, Bool, true, List, [], ◌∷◌, ◌++◌, length, drop, refl, ap, sym, ◌∙◌, Option}
use Rattle.prem_tiling.proofs.Prelude.{Walk, raised, undone, drop-append-le, take-append-le, slice_set}

abbrev pub walk_with : List Bool → List ℕ → Option ℕ → Walk
walk_with flags trail line = record { flags = flags; trail = trail; line = line }

raised_last : (xs : List ℕ) (k : ℕ) (flags : List Bool) → raised (xs ++ k ∷ []) flags ≡ raised xs (slice_set flags k true)
raised_last [] k flags = refl
raised_last (x ∷ xs) k flags = ap (λ (f : List Bool). slice_set f x true) (raised_last xs k flags)

pub undone_last : (mark k : ℕ) (trail : List ℕ) (flags : List Bool) (line : Option ℕ) → mark ≤ length trail →
    undone mark (walk_with (slice_set flags k true) trail line) ≡ undone mark (walk_with flags (trail ++ k ∷ []) line)
undone_last mark k trail flags line le =
    let back = ap (λ (t : List ℕ). raised t flags) (drop-append-le mark trail (k ∷ []) le) ∙ raised_last (drop mark trail) k flags in
    let rest = take-append-le mark trail (k ∷ []) le in
    λ i. walk_with (sym back i) (sym rest i) line
