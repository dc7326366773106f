-- Cycles that all have the same values, and what a dump tells of them.
use Rattle.std.specs.Prelude.{nat_lt, nat_le, max, slice_get}
use Rattle.std.proofs.Common.{◌≡◌, ℕ, zero, suc, ◌+◌, ◌<◌, ◌≤◌, Bool, true, false, cond, List, [], ◌∷◌, ◌++◌, Option, Some, None, drop, refl, ap, ap₂, sym, ◌∙◌, subst, arith, append-nil}
use Rattle.std.proofs.lemmas.Bool.Decides.{nat_tests}
use Rattle.prem_wave.specs.Dump.{Moment, changes_from, is_known, last_of, moment_at, moments_of, same_value}
use Rattle.prem_wave.specs.Waves.{last_between, moments_between}

same_itself : (v : Option ℕ) → same_value v v ≡ true
same_itself None = refl
same_itself (Some n) = grind (arith, nat_tests)

-- ---- nothing changes where nothing is other

known_head : (all : List (Option ℕ)) (k : ℕ) (v : Option ℕ) → slice_get all k ≡ Some v → is_known (slice_get all k) v ≡ true
known_head all k v is = ap (λ o. is_known o v) is ∙ same_itself v

get_drop : (all : List (Option ℕ)) (k : ℕ) (v : Option ℕ) (rest : List (Option ℕ)) → drop k all ≡ v ∷ rest → (slice_get all k ≡ Some v) × (drop (suc k) all ≡ rest)
get_drop [] zero v rest e = absurd (cc)
get_drop [] (suc k) v rest e = absurd (cc)
get_drop (x ∷ all) zero v rest e = let head : x ≡ v = cc in let tail : all ≡ rest = cc in (ap (λ y. Some y) head, tail)
get_drop (x ∷ all) (suc k) v rest e = get_drop all k v rest e

no_changes : (all : List (Option ℕ)) (k : ℕ) (rest : List (Option ℕ)) → drop k all ≡ rest → changes_from all k rest ≡ []
no_changes all k [] e = refl
no_changes all k (v ∷ rest) e =
    let at = get_drop all k v rest e in
    ap (λ b. cond b (changes_from all (suc k) rest) (record { signal = k; value = v } ∷ changes_from all (suc k) rest)) (known_head all k v at.0)
    ∙ no_changes all (suc k) rest at.1

pub unchanged : (values : List (Option ℕ)) → changes_from values 0 values ≡ []
unchanged values = no_changes values 0 values refl

-- ---- one more cycle with the same values

pub record Between (last : List (Option ℕ)) (from at now : ℕ) (values : List (Option ℕ)) (moments : List Moment) (before : List Moment) (end : List (Option ℕ)) : Type 0 where
  pub moments_are : moments ≡ before ++ moments_between last from at now values
  pub last_is : end ≡ last_between last from at now values

append_none : (xs : List Moment) (ys : List Moment) → ys ≡ [] → xs ++ ys ≡ xs
append_none xs ys e = ap (λ y. xs ++ y) e ∙ append-nil xs

-- before the first cycle nothing is told
pub early : (all : ℕ → List (Option ℕ)) (from at : ℕ) → at ≤ from → last_of all from at ≡ []
unfolding last_of
early all from zero le = refl
early all from (suc n) le = let no : nat_le from n ≡ false = grind (arith, nat_tests) in ap (λ c. cond c (all n) []) no

pub none_told : (all : ℕ → List (Option ℕ)) (from at : ℕ) → at ≤ from → moments_of all from at ≡ []
unfolding moments_of
none_told all from zero le = refl
none_told all from (suc n) le =
    let no : nat_le from n ≡ false = grind (arith, nat_tests) in
    ap₂ (λ xs c. xs ++ cond c (moment_at n (changes_from (last_of all from n) 0 (all n))) []) (none_told all from n (omega (arith, le))) no

-- by whether the new cycle is told, and whether one before it is
step_by : (all : ℕ → List (Option ℕ)) (from at b : ℕ) (x last : List (Option ℕ)) (before : List Moment) (told was : Bool) → (at ≤ from → last ≡ []) →
    nat_le from b ≡ told → nat_lt (max from at) b ≡ was → at ≤ b → all b ≡ x →
    Between last from at b x (moments_of all from b) before (last_of all from b) → Between last from at (suc b) x (moments_of all from (suc b)) before (last_of all from (suc b))
unfolding moments_of last_of
step_by all from at b x last before false true none e f le is h = absurd (grind (arith, nat_tests))
step_by all from at b x last before false false none e f le is h =
    let no : nat_lt (max from at) (suc b) ≡ false = grind (arith, nat_tests) in
    let ahead : at ≤ from = grind (arith, nat_tests) in
    record {
      moments_are = ap (λ c. moments_of all from b ++ cond c (moment_at b (changes_from (last_of all from b) 0 (all b))) []) e
          ∙ append-nil (moments_of all from b) ∙ h.moments_are ∙ ap (λ c. before ++ cond c (moment_at (max from at) (changes_from last 0 x)) []) (f ∙ sym no);
      last_is = ap (λ c. cond c (all b) []) e ∙ sym (none ahead) ∙ sym (ap (λ c. cond c x last) no);
    }
step_by all from at b x last before true true none e f le is h =
    let yes : nat_lt (max from at) (suc b) ≡ true = grind (arith, nat_tests) in
    let last_x : last_of all from b ≡ x = h.last_is ∙ ap (λ c. cond c x last) f in
    let nothing : moment_at b (changes_from (last_of all from b) 0 (all b)) ≡ [] =
    ap₂ (λ u v. moment_at b (changes_from u 0 v)) last_x is ∙ ap (moment_at b) (unchanged x) in
    record {
      moments_are = ap (λ c. moments_of all from b ++ cond c (moment_at b (changes_from (last_of all from b) 0 (all b))) []) e
          ∙ append_none (moments_of all from b) _ nothing ∙ h.moments_are ∙ ap (λ c. before ++ cond c (moment_at (max from at) (changes_from last 0 x)) []) (f ∙ sym yes);
      last_is = ap (λ c. cond c (all b) []) e ∙ is ∙ sym (ap (λ c. cond c x last) yes);
    }
step_by all from at b x last before true false none e f le is h =
    let yes : nat_lt (max from at) (suc b) ≡ true = grind (arith, nat_tests) in
    let here : max from at ≡ b = grind (arith, nat_tests) in
    let last_same : last_of all from b ≡ last = h.last_is ∙ ap (λ c. cond c x last) f in
    let before_is : moments_of all from b ≡ before = h.moments_are ∙ ap (λ c. before ++ cond c (moment_at (max from at) (changes_from last 0 x)) []) f ∙ append-nil before in
    record {
      moments_are = ap (λ c. moments_of all from b ++ cond c (moment_at b (changes_from (last_of all from b) 0 (all b))) []) e
          ∙ ap₂ (λ u v. u ++ moment_at b v) before_is (ap₂ (λ u v. changes_from u 0 v) last_same is)
          ∙ ap (λ n. before ++ moment_at n (changes_from last 0 x)) (sym here)
          ∙ sym (ap (λ c. before ++ cond c (moment_at (max from at) (changes_from last 0 x)) []) yes);
      last_is = ap (λ c. cond c (all b) []) e ∙ is ∙ sym (ap (λ c. cond c x last) yes);
    }

-- ---- so many of them

none_yet : (all : ℕ → List (Option ℕ)) (from at now : ℕ) (x : List (Option ℕ)) → now ≤ at →
    Between (last_of all from at) from at now x (moments_of all from at) (moments_of all from at) (last_of all from at)
none_yet all from at now x le =
    let no : nat_lt (max from at) now ≡ false = grind (arith, nat_tests) in
    record {
      moments_are = sym (append_none (moments_of all from at) _ (ap (λ c. cond c (moment_at (max from at) (changes_from (last_of all from at) 0 x)) []) no));
      last_is = sym (ap (λ c. cond c x (last_of all from at)) no);
    }

pub between : (all : ℕ → List (Option ℕ)) (from at n : ℕ) (x : List (Option ℕ)) → ((m : ℕ) → m < n → all (at + m) ≡ x) →
    Between (last_of all from at) from at (at + n) x (moments_of all from (at + n)) (moments_of all from at) (last_of all from (at + n))
between all from at zero x h =
    let e : at + 0 ≡ at = omega arith in
    subst (λ k. Between (last_of all from at) from at k x (moments_of all from k) (moments_of all from at) (last_of all from k)) (sym e) (none_yet all from at at x (omega arith))
between all from at (suc n) x h =
    let e : at + suc n ≡ suc (at + n) = omega arith in
    let before = between all from at n x (λ m lt. h m (omega (arith, lt))) in
    subst (λ k. Between (last_of all from at) from at k x (moments_of all from k) (moments_of all from at) (last_of all from k)) (sym e)
    (step_by all from at (at + n) x (last_of all from at) (moments_of all from at) (nat_le from (at + n)) (nat_lt (max from at) (at + n))
    (early all from at) refl refl (omega arith) (h n (omega arith)) before)
