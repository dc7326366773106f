-- Fewer than four words ask for nothing.
use Rattle.std.proofs.Common.{◌≡◌, ◌<◌, ℕ, List, [], ◌∷◌, length, None, refl, arith}
use Rattle.prem_pair_top.specs.Words.{asked_of}

pub few_ask_nothing : (words : List (List ℕ)) → length words < 4 → asked_of words ≡ None
few_ask_nothing [] h = refl
few_ask_nothing (a ∷ []) h = refl
few_ask_nothing (a ∷ b ∷ []) h = refl
few_ask_nothing (a ∷ b ∷ c ∷ []) h = refl
few_ask_nothing (a ∷ b ∷ c ∷ d ∷ words) h = absurd (omega (arith, h))
