-- The length of a busy period is enough for a job of each task of its level.
use Rattle.std.proofs.Common.{◌≡◌, ℕ, zero, suc, ◌+◌, ◌*◌, ◌<◌, ◌≤◌, refl, ap, ◌∙◌, sym, subst, arith, List, [], ◌∷◌, length, take, drop}
use Rattle.prem_sound.specs.Script.Scripts.{sum_below}
use Rattle.prem_resp.specs.declared.busy.load.Load.{Load}
use Rattle.prem_resp.specs.Busy.Busy.{load_at, releases_in, interference, greatest_interval, blocking}
use Rattle.prem_resp.specs.Busy.Schedule.{LengthsAreEnough}

abbrev work : ℕ → List Load → ℕ → ℕ
work cycles loads k = releases_in (load_at loads k).period cycles * (load_at loads k).cost

pub sum_front : (n : ℕ) (f : ℕ → ℕ) → sum_below (suc n) f ≡ f 0 + sum_below n (λ k. f (suc k))
sum_front zero f = omega arith
sum_front (suc n) f = let a : sum_below (suc n) f ≡ f 0 + sum_below n (λ k. f (suc k)) = sum_front n f in omega (arith, a)

summed : (i cycles : ℕ) (loads : List Load) → i < length loads → sum_below i (work cycles loads) ≡ interference cycles (take i loads)
summed zero cycles loads lt = refl
summed (suc i) cycles [] lt = absurd (omega (arith, lt))
summed (suc i) cycles (x ∷ xs) lt =
    sum_front i (work cycles (x ∷ xs)) ∙ ap (λ n. releases_in x.period cycles * x.cost + n) (summed i cycles xs (omega (arith, lt)))

one_of : (loads : List Load) (k : ℕ) → k < length loads → (load_at loads k).longest ≤ greatest_interval loads
one_of [] k lt = absurd (omega (arith, lt))
one_of (x ∷ xs) zero lt = omega arith
one_of (x ∷ xs) (suc k) lt = omega (arith, one_of xs k (omega (arith, lt)))

behind : (loads : List Load) (i k : ℕ) → i < k → k < length loads → (load_at loads k).longest ≤ greatest_interval (drop (i + 1) loads)
behind [] i k less lt = absurd (omega (arith, lt))
behind (x ∷ xs) i zero less lt = absurd (omega (arith, less))
behind (x ∷ xs) zero (suc k) less lt = one_of xs k (omega (arith, lt))
behind (x ∷ xs) (suc i) (suc k) less lt =
    let e : suc i + 1 ≡ suc (i + 1) = omega arith in
    subst (λ n. (load_at xs k).longest ≤ greatest_interval (drop n (x ∷ xs))) (sym e) (behind xs i k (omega (arith, less)) (omega (arith, lt)))

pub lengths_are_enough : LengthsAreEnough
lengths_are_enough loads jobs i cycles lt balanced le = record {
  there = lt;
  some = balanced.0;
  within = le;
  blocked = blocking loads i;
  behind = λ k less lk. behind loads i k less lk;
  most = omega (arith, balanced.1, summed i cycles loads lt);
}
