-- Runs of two cores compose, and a state that stays stays.
use Rattle.std.proofs.Common.{◌≡◌, ℕ, zero, suc, ◌+◌, refl, ap, ◌∙◌, arith, cond, true, false, List}
use Rattle.prem_pair.proofs.Prelude.{Setup, Request, ReplacementRule, PairState, is_pair_over, pair_cycle, pair_step, pair_cycles}

pub pair_cycles-next : (rule other : ReplacementRule) (p q : Setup) (requests : List Request) (n : ℕ) (s : PairState) →
    pair_cycles rule other p q requests (n + 1) s ≡ pair_step rule other p q requests (pair_cycles rule other p q requests n s)
unfolding pair_cycles
pair_cycles-next rule other p q requests n s = let e : n + 1 ≡ suc n = omega arith in ap (λ k. pair_cycles rule other p q requests k s) e

-- n cycles after m cycles
pub pair_cycles-add : (rule other : ReplacementRule) (p q : Setup) (requests : List Request) (m n : ℕ) (s : PairState) →
    pair_cycles rule other p q requests (m + n) s ≡ pair_cycles rule other p q requests n (pair_cycles rule other p q requests m s)
unfolding pair_cycles
pair_cycles-add rule other p q requests m zero s = let e : m + 0 ≡ m = omega arith in ap (λ k. pair_cycles rule other p q requests k s) e
pair_cycles-add rule other p q requests m (suc n) s =
    let e : m + suc n ≡ suc (m + n) = omega arith in
    ap (λ k. pair_cycles rule other p q requests k s) e ∙ ap (pair_step rule other p q requests) (pair_cycles-add rule other p q requests m n s)

-- a cycle that is taken
pub pair_step-goes : (rule other : ReplacementRule) (p q : Setup) (requests : List Request) (s : PairState) → is_pair_over s ≡ false →
    pair_step rule other p q requests s ≡ pair_cycle rule other p q requests s
pair_step-goes rule other p q requests s h = ap (λ b. cond b s (pair_cycle rule other p q requests s)) h

pub pair_step-stays : (rule other : ReplacementRule) (p q : Setup) (requests : List Request) (s : PairState) → is_pair_over s ≡ true → pair_step rule other p q requests s ≡ s
pair_step-stays rule other p q requests s h = ap (λ b. cond b s (pair_cycle rule other p q requests s)) h

pub pair_cycles-over : (rule other : ReplacementRule) (p q : Setup) (requests : List Request) (n : ℕ) (s : PairState) → is_pair_over s ≡ true → pair_cycles rule other p q requests n s ≡ s
unfolding pair_cycles
pair_cycles-over rule other p q requests zero s h = refl
pair_cycles-over rule other p q requests (suc n) s h =
    ap (pair_step rule other p q requests) (pair_cycles-over rule other p q requests n s h) ∙ pair_step-stays rule other p q requests s h
