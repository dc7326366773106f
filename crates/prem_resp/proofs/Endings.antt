-- A text that ends as late doesn't end as fitting.
use Rattle.std.specs.Prelude.{codes}
use Rattle.std.proofs.Common.{◌≡◌, ℕ, ◌+◌, List, [], ◌∷◌, ◌++◌, length, length-append, refl, ap, ◌∙◌, sym, arith, drop, get_or}

-- what stands behind
behind : (front rest : List ℕ) → drop (length front) (front ++ rest) ≡ rest
behind [] rest = refl
behind (x ∷ xs) rest = behind xs rest

pub late_is_other : (a b : List ℕ) → a ++ codes "late\n" ≡ b ++ codes "fits\n" → ⊥
late_is_other a b e =
    let whole : length a + 5 ≡ length b + 5 = sym (length-append a (codes "late\n")) ∙ ap length e ∙ length-append b (codes "fits\n") in
    let long : length a ≡ length b = omega (arith, whole) in
    let same : codes "late\n" ≡ codes "fits\n" = sym (behind a (codes "late\n")) ∙ ap (drop (length a)) e ∙ ap (λ n. drop n (b ++ codes "fits\n")) long ∙ behind b (codes "fits\n") in
    let first : 108 ≡ 102 = ap (λ xs. get_or xs 0 0) same in
    omega (arith, first)
