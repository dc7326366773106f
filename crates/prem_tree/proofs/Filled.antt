-- Lists that are cut or filled up to a length.
use Rattle.std.proofs.Common.{◌≡◌, ℕ, zero, suc, ◌-◌, ◌≤◌, List, [], ◌∷◌, ◌++◌, length, take, replicate, refl, ap, sym, ◌∙◌, arith}
use Rattle.std.proofs.lemmas.List.{take_all, length-replicate}

take-longer : {X : Type 0} (n k : ℕ) (xs : List X) (d : X) → n ≤ k → take n (xs ++ replicate k d) ≡ take n (xs ++ replicate n d)
take-longer zero k xs d h = refl
take-longer (suc n) zero xs d h = absurd (omega arith)
take-longer (suc n) (suc k) [] d h = ap (λ ys. d ∷ ys) (take-longer n k [] d (omega arith))
take-longer (suc n) (suc k) (x ∷ xs) d h = ap (λ ys. x ∷ ys) (take-longer n (suc k) xs d (omega arith) ∙ sym (take-longer n (suc n) xs d (omega arith)))

-- cut to n, or filled up to n
pub padded : {X : Type 0} (n : ℕ) (xs : List X) (d : X) → take n xs ++ replicate (n - length xs) d ≡ take n (xs ++ replicate n d)
padded zero xs d = let none : 0 - length xs ≡ 0 = omega arith in rw none
padded (suc n) [] d =
    let all : suc n - 0 ≡ suc n = omega arith in
    rw all (sym (take_all (suc n) (replicate (suc n) d) (omega (arith, length-replicate (suc n) d))))
padded (suc n) (x ∷ xs) d =
    let less : suc n - suc (length xs) ≡ n - length xs = omega arith in
    rw less (ap (λ ys. x ∷ ys) (padded n xs d ∙ sym (take-longer n (suc n) xs d (omega arith))))
