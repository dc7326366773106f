-- Texts that are written piece by piece.
use Rattle.std.proofs.Common.{◌≡◌, ℕ, List, ◌++◌, Result, Ok, Err, OnOk, ap, ◌∙◌, append_assoc}

-- a piece, and what comes behind it
pub joined : (old piece rest one all : List ℕ) → one ≡ old ++ piece → all ≡ one ++ rest → all ≡ old ++ (piece ++ rest)
joined old piece rest one all first then_rest = then_rest ∙ ap (λ (x : List ℕ). x ++ rest) first ∙ append_assoc old piece rest

-- what the last call says, and what is wanted of the whole
pub ends_so : {A E : Type 0} → (r : Result A E) (new was want : List ℕ) → OnOk r (new ≡ was) → (new ≡ was → new ≡ want) → OnOk r (new ≡ want)
ends_so (Ok x) new was want h goes = goes h
ends_so (Err e) new was want h goes = tt
