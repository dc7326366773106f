use Rattle.std.proofs.Common.{◌≡◌, ℕ, zero, suc, ◌+◌, List, [], ◌∷◌, ◌++◌, ap, sym, ◌∙◌, arith}
use Rattle.prem_analysis.proofs.Prelude.{range_with_len}
use Rattle.prem_analysis.proofs.ranging.saves.all_below.Goals as goal

one_more : (a n m : ℕ) → a + n ≡ m → range_with_len a (suc n) ≡ range_with_len a n ++ m ∷ []
one_more a zero m is = let e : a ≡ m = omega arith in ap (λ k. k ∷ []) e
one_more a (suc n) m is = ap (λ ks. a ∷ ks) (one_more (a + 1) n m (omega arith))

pub loop-k-preserved : goal.loop-k-preserved
loop-k-preserved c =
    let k = c.loop-k.k in let next : suc k ≡ k + 1 = omega arith in
    c.in_ok-push.ensures.items ∙ ap (λ (ks : List ℕ). ks ++ k ∷ []) c.loop-k.invariant ∙ sym (one_more 0 k k (omega arith)) ∙ ap (range_with_len 0) next
