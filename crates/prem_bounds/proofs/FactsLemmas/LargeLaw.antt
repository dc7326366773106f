-- The rule on bounds, by tests of them.
use Rattle.std.specs.Prelude.{◌==◌, ◌&&◌, nat_lt}
use Rattle.std.specs.Option.{option_map}
use Rattle.std.proofs.Common.{◌≡◌, ℕ, zero, suc, ◌+◌, Bool, true, false, cond, List, [], ◌∷◌, Option, None, Some, refl, ap, sym, ◌∙◌, arith, map, drop}
use Rattle.prem_syntax.specs.Resolved.{Routine}
use Rattle.prem_syntax.specs.Statements.{is_marked}
use Rattle.prem_layout.specs.Facts.{IntervalFact}
use Rattle.prem_layout.specs.Placed.{name_at}
use Rattle.prem_layout.specs.Rules.{LateRule, BoundTooLarge, or_else, greatest_bound, if_large, marked_bound, facts_behind, large_bound}
use Rattle.prem_bounds.specs.Facts.Large.{marked_large, rest_behind, first_large}
use Rattle.prem_bounds.specs.Facts.Laws.{is_large, LargeIsFirst}
use Rattle.prem_bounds.proofs.FactsLemmas.FirstLaws.{or_else_map}

first_name : (all : List Routine) (n : ℕ) (r : Routine) (rs : List Routine) → drop n all ≡ r ∷ rs → name_at all n ≡ r.text.name
first_name [] zero r rs e = cc
first_name [] (suc n) r rs e = cc
first_name (x ∷ xs) zero r rs e = let same : x ≡ r = cc in ap (λ (y : Routine). y.text.name) same
first_name (x ∷ xs) (suc n) r rs e = first_name xs n r rs e

rest_of_rest : (all : List Routine) (n : ℕ) (r : Routine) (rs : List Routine) → drop n all ≡ r ∷ rs → drop (n + 1) all ≡ rs
rest_of_rest all n r rs e = let z : n + 1 ≡ suc n = omega arith in ap (λ k. drop k all) z ∙ by all n e
  where
    by : (all : List Routine) (n : ℕ) → drop n all ≡ r ∷ rs → drop (suc n) all ≡ rs
    by [] zero e = cc
    by [] (suc n) e = cc
    by (x ∷ xs) zero e = cc
    by (x ∷ xs) (suc n) e = by xs n e

by_bound : (all : List Routine) (n bound : ℕ) → if_large (name_at all n) bound ≡ option_map (λ m. BoundTooLarge (name_at all m)) (cond (nat_lt greatest_bound bound) (Some n) None)
by_bound all n bound = by (nat_lt greatest_bound bound)
  where
    by : (b : Bool) → cond b (Some (BoundTooLarge (name_at all n))) None ≡ option_map (λ m. BoundTooLarge (name_at all m)) (cond b (Some n) None)
    by true = refl
    by false = refl

by_mark : (all : List Routine) (n : ℕ) (b : Bool) (facts : List IntervalFact) →
    marked_bound b (name_at all n) facts ≡ option_map (λ m. BoundTooLarge (name_at all m)) (marked_large b n (map is_large facts))
by_mark all n false facts = refl
by_mark all n true [] = refl
by_mark all n true (f ∷ fs) = by_bound all n f.bound

by_job : (all : List Routine) (n job bound : ℕ) →
    cond (n == job) (if_large (name_at all n) bound) None ≡ option_map (λ m. BoundTooLarge (name_at all m)) (cond ((n == job) && nat_lt greatest_bound bound) (Some n) None)
by_job all n job bound = by (n == job)
  where
    by : (b : Bool) → cond b (if_large (name_at all n) bound) None ≡ option_map (λ m. BoundTooLarge (name_at all m)) (cond (b && nat_lt greatest_bound bound) (Some n) None)
    by true = by_bound all n bound
    by false = refl

behind : (b : Bool) (facts : List IntervalFact) → map is_large (facts_behind b facts) ≡ rest_behind b (map is_large facts)
behind false facts = refl
behind true [] = refl
behind true (f ∷ fs) = refl

large_from : (all : List Routine) (job bound n : ℕ) (facts : List IntervalFact) (fs : List Routine) → drop n all ≡ fs →
    large_bound job bound n facts fs ≡ option_map (λ m. BoundTooLarge (name_at all m)) (first_large job (nat_lt greatest_bound bound) n (map is_large facts) (map is_marked fs))
large_from all job bound n facts [] e = refl
large_from all job bound n facts (f ∷ fs) e =
    let name : f.text.name ≡ name_at all n = sym (first_name all n f fs e) in
    let h : ℕ → LateRule = λ m. BoundTooLarge (name_at all m) in
    let large : Bool = nat_lt greatest_bound bound in
    let m : Option ℕ = marked_large (is_marked f) n (map is_large facts) in
    let j : Option ℕ = cond ((n == job) && large) (Some n) None in
    let rest : Option ℕ = first_large job large (n + 1) (map is_large (facts_behind (is_marked f) facts)) (map is_marked fs) in
    ap (λ t. or_else (marked_bound (is_marked f) t facts) (or_else (cond (n == job) (if_large t bound) None) (large_bound job bound (n + 1) (facts_behind (is_marked f) facts) fs))) name
    ∙ ap (λ o. or_else o (or_else (cond (n == job) (if_large (name_at all n) bound) None) (large_bound job bound (n + 1) (facts_behind (is_marked f) facts) fs))) (by_mark all n (is_marked f) facts)
    ∙ ap (λ o. or_else (option_map h m) (or_else o (large_bound job bound (n + 1) (facts_behind (is_marked f) facts) fs))) (by_job all n job bound)
    ∙ ap (λ o. or_else (option_map h m) (or_else (option_map h j) o)) (large_from all job bound (n + 1) (facts_behind (is_marked f) facts) fs (rest_of_rest all n f fs e))
    ∙ ap (λ o. or_else (option_map h m) o) (sym (or_else_map h j rest))
    ∙ sym (or_else_map h m (or_else j rest))
    ∙ ap (λ ls. option_map h (or_else m (or_else j (first_large job large (n + 1) ls (map is_marked fs))))) (behind (is_marked f) facts)

pub large_is_first : LargeIsFirst
large_is_first routines job bound facts = large_from routines job bound 0 facts routines refl
