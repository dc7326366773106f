-- Numbers that are words wherever they are looked up.
use Rattle.std.proofs.Common.{◌<◌, ◌^◌, ℕ, suc, List, [], ◌∷◌}
use Rattle.prem_analysis.proofs.Prelude.{All, slice_index}
use Rattle.std.proofs.lemmas.List.Elements.{All-nil, All-cons}

pub all_below : (xs : List ℕ) → ((n : ℕ) → slice_index xs n < 2 ^ 32) → All (λ x. x < 2 ^ 32) xs
all_below [] h = All-nil (λ x. x < 2 ^ 32)
all_below (x ∷ xs) h = All-cons (λ x. x < 2 ^ 32) x xs (h 0) (all_below xs (λ n. h (suc n)))
