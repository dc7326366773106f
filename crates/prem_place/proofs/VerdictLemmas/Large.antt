-- Where no bound is too large.
use Rattle.std.specs.Prelude.{◌==◌, ◌&&◌, not}
use Rattle.std.proofs.Common.{◌≡◌, ◌≢◌, ℕ, ◌+◌, ◌<◌, ◌≤◌, Bool, true, false, cond, List, [], ◌∷◌, Option, None, Some, refl, ap, ◌∙◌, ⊎_elim, arith, length, map, filter}
use Rattle.std.proofs.lemmas.Bool.{cases_eq, eq-eqb}
use Rattle.prem_layout.specs.Facts.{IntervalFact}
use Rattle.prem_layout.specs.Rules.{or_else}
use Rattle.prem_bounds.specs.Facts.Large.{marked_large, rest_behind, first_large}
use Rattle.prem_bounds.specs.Facts.Laws.{is_large}
use Rattle.prem_place.specs.Verdict.Told.{is_small}
use Rattle.prem_place.proofs.VerdictLemmas.Marks.{mark_count}

-- none of these tests holds
abbrev pub NoneOf : List Bool → Type 0
NoneOf [] = Unit {0}
NoneOf (b ∷ bs) = (b ≡ false) × NoneOf bs

first_none : (a b : Option ℕ) → or_else a b ≡ None → a ≡ None
first_none None b e = refl
first_none (Some x) b e = absurd cc

second_none : (a b : Option ℕ) → or_else a b ≡ None → b ≡ None
second_none None b e = e
second_none (Some x) b e = absurd cc

none_if : (b : Bool) (n : ℕ) → cond b (Some n) None ≡ None → b ≡ false
none_if true n e = absurd cc
none_if false n e = refl

pub none_large : (job : ℕ) (large : Bool) (n : ℕ) (bs ms : List Bool) → length bs ≡ mark_count ms → first_large job large n bs ms ≡ None → NoneOf bs
none_large job large n [] [] long e = tt
none_large job large n (b ∷ bs) [] long e = absurd (omega (arith, long))
none_large job large n bs (false ∷ ms) long e =
    none_large job large (n + 1) bs ms (omega (arith, long)) (second_none (cond ((n == job) && large) (Some n) None) (first_large job large (n + 1) bs ms) e)
none_large job large n [] (true ∷ ms) long e = tt
none_large job large n (b ∷ bs) (true ∷ ms) long e =
    let here = first_none (cond b (Some n) None) (or_else (cond ((n == job) && large) (Some n) None) (first_large job large (n + 1) bs ms)) e in
    let more = second_none (cond b (Some n) None) (or_else (cond ((n == job) && large) (Some n) None) (first_large job large (n + 1) bs ms)) e in
    (none_if b n here, none_large job large (n + 1) bs ms (omega (arith, long)) (second_none (cond ((n == job) && large) (Some n) None) (first_large job large (n + 1) bs ms) more))

and_true : (b large : Bool) → b ≡ true → b && large ≡ false → large ≡ false
and_true true large e f = f
and_true false large e f = absurd cc

-- `job` is among the functions
pub job_small : (job : ℕ) (large : Bool) (n : ℕ) (bs ms : List Bool) → n ≤ job → job < n + length ms → first_large job large n bs ms ≡ None → large ≡ false
job_small job large n bs [] le lt e = absurd (omega arith)
job_small job large n bs (m ∷ ms) le lt e =
    let first : Option ℕ = cond ((n == job) && large) (Some n) None in
    let rest : Option ℕ = first_large job large (n + 1) (rest_behind m bs) ms in
    let more = second_none (marked_large m n bs) (or_else first rest) e in
    ⊎_elim (λ (same : n ≡ job). and_true (n == job) large (eq-eqb n job same) (none_if ((n == job) && large) n (first_none first rest more)))
    (λ (other : n ≢ job). job_small job large (n + 1) (rest_behind m bs) ms (omega (arith, other)) (omega arith) (second_none first rest more))
    (cases_eq n job)

pub all_small : (facts : List IntervalFact) → NoneOf (map is_large facts) → filter is_small facts ≡ facts
all_small [] h = refl
all_small (f ∷ fs) h = ap (λ b. cond (not b) (f ∷ filter is_small fs) (filter is_small fs)) h.0 ∙ ap (λ gs. f ∷ gs) (all_small fs h.1)
