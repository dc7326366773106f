-- Rounds that follow new functions alone.
use Rattle.std.proofs.Common.{◌≡◌, ◌≤◌, ℕ, zero, suc, ◌+◌, ◌-◌, Bool, true, false, not, ◌&&◌, ◌||◌, List, [], ◌∷◌, true≢false, refl, ap, sym, ◌∙◌, arith}
use Rattle.prem_syntax.specs.Reach.{has_number, is_in_set, called_by, reached_by, with_called}
use Rattle.prem_names.specs.Reach.Reach.{Closed, called_by_new, with_new}

neither : (x y : Bool) → (x || y) ≡ false → (x ≡ false) × (y ≡ false)
neither true y e = absurd (true≢false e)
neither false y e = (refl, e)

one_new : (s p h : Bool) → (p && h) ≡ false → (s && h) ≡ ((s && not p) && h)
one_new false p h e = refl
one_new true false h e = refl
one_new true true h e = e

-- where the set before calls a function not, it is called exactly by a new one
new_calls : (table : List (List ℕ)) (before set : List Bool) (k n : ℕ) → called_by table before k n ≡ false → called_by table set k n ≡ called_by_new table before set k n
new_calls [] before set k n e = refl
new_calls (callees ∷ table) before set k n e =
    let parts = neither (is_in_set before k && has_number callees n) (called_by table before (k + 1) n) e in
    let own = one_new (is_in_set set k) (is_in_set before k) (has_number callees n) parts.0 in
    let others = new_calls table before set (k + 1) n parts.1 in
    λ i. own i || others i

-- a round
pub round : (table : List (List ℕ)) (before set : List Bool) (n : ℕ) (xs : List Bool) → Closed table before n xs → with_new table before set 0 n xs ≡ with_called table set n xs
round table before set n [] closed = refl
round table before set n (true ∷ xs) closed = ap (λ ys. true ∷ ys) (round table before set (n + 1) xs closed.1)
round table before set n (false ∷ xs) closed =
    let own = new_calls table before set 0 n closed.0 in
    let rest = round table before set (n + 1) xs closed.1 in
    λ i. sym own i ∷ rest i

twice : (a b : Bool) → ((a || b) || b) ≡ (a || b)
twice true b = refl
twice false true = refl
twice false false = refl

-- behind it what the set calls is in the next one
pub closed_behind : (table : List (List ℕ)) (set : List Bool) (n : ℕ) (xs : List Bool) → Closed table set n (with_called table set n xs)
closed_behind table set n [] = tt
closed_behind table set n (x ∷ xs) = (twice x (called_by table set 0 n), closed_behind table set (n + 1) xs)

by_none : (table : List (List ℕ)) (k n : ℕ) → called_by table [] k n ≡ false
by_none [] k n = refl
by_none (callees ∷ table) k n = by_none table (k + 1) n

pub with_none : (b : Bool) → (b || false) ≡ b
with_none true = refl
with_none false = refl

-- before the first round
pub closed_first : (table : List (List ℕ)) (n : ℕ) (xs : List Bool) → Closed table [] n xs
closed_first table n [] = tt
closed_first table n (x ∷ xs) = (ap (λ b. x || b) (by_none table 0 n) ∙ with_none x, closed_first table (n + 1) xs)

-- one round more
pub reached_more : (table : List (List ℕ)) (start set : List Bool) (n : ℕ) → set ≡ reached_by table start n → with_called table set 0 set ≡ reached_by table start (n + 1)
reached_more table start set n is =
    let more : suc n ≡ n + 1 = omega arith in
    ap (λ x. with_called table x 0 x) is ∙ ap (reached_by table start) more

-- a set that stays is all that is reached
stays : (table : List (List ℕ)) (start set : List Bool) (t m : ℕ) → set ≡ reached_by table start t → with_called table set 0 set ≡ set → reached_by table start (m + t) ≡ set
stays table start set t zero is same = let none : 0 + t ≡ t = omega arith in ap (reached_by table start) none ∙ sym is
stays table start set t (suc m) is same =
    let before = stays table start set t m is same in
    let more : suc m + t ≡ suc (m + t) = omega arith in
    ap (reached_by table start) more ∙ (λ i. with_called table (before i) 0 (before i)) ∙ same

pub reached_where_same : (table : List (List ℕ)) (start before set next : List Bool) (t turns : ℕ) →
    set ≡ reached_by table start t → t ≤ turns → Closed table before 0 set → next ≡ with_new table before set 0 0 set → next ≡ set → set ≡ reached_by table start turns
reached_where_same table start before set next t turns is within closed made same =
    let called : with_called table set 0 set ≡ set = sym (round table before set 0 set closed) ∙ sym made ∙ same in
    let all_turns : turns - t + t ≡ turns = omega (arith, within) in
    sym (stays table start set t (turns - t) is called) ∙ ap (reached_by table start) all_turns
