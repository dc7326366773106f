-- Ways in use, and the way that a line takes which comes in.
use Rattle.std.proofs.Common.{◌≡◌, ◌≢◌, ◌⊎◌, inl, inr, ℕ, zero, suc, ◌+◌, ◌-◌, ◌<◌, ◌≤◌, refl, ap, ◌∙◌, sym, subst, arith, cond, ltb, true, false, List, [], ◌∷◌, length, take, get_or, ⊎_elim}
use Rattle.std.proofs.lemmas.Bool.{cases_Bool, cases_eq, cases_lt, eq-eqb, ne_eqb, lt-ltb, le-ltb, ltb-true, ltb-false}
use Rattle.std.proofs.lemmas.List.{take_all}
use Rattle.prem_plant.specs.Order.Order.{is_in, without, AreOnce, OrderRule}
use Rattle.prem_plant.specs.Order.Orders.{AreWays, ways_below, free_from, way_for}
use Rattle.prem_plant.specs.Order.Rules.{KeepsMembers}
use Rattle.prem_plant.proofs.OrderLemmas.Members.{in_head, in_tail, in_other, in_without, once_without, no_more, all_by}

-- ---- as many ways as there are numbers below a bound

pub length-ways : (n : ℕ) → length (ways_below n) ≡ n
length-ways zero = refl
length-ways (suc n) = ap suc (length-ways n)

pub in_ways : (n w : ℕ) → w < n → is_in w (ways_below n) ≡ true
in_ways zero w h = absurd (omega arith)
in_ways (suc n) w h =
    ⊎_elim (λ (e : n ≡ w). in_head w n (ways_below n) e)
    (λ (ne : n ≢ w). in_tail w n (ways_below n) (in_ways n w (omega arith))) (cases_eq n w)

pub not_in_ways : (n w : ℕ) → n ≤ w → is_in w (ways_below n) ≡ false
not_in_ways zero w h = refl
not_in_ways (suc n) w h = in_other w n (ways_below n) (λ (e : n ≡ w). absurd (omega arith)) ∙ not_in_ways n w (omega arith)

ways_once : (n : ℕ) → AreOnce (ways_below n)
ways_once zero = tt
ways_once (suc n) = (not_in_ways n n (omega arith), ways_once n)

pub few_ways : (n : ℕ) (xs : List ℕ) → AreOnce xs → ((w : ℕ) → is_in w xs ≡ true → w < n) → length xs ≤ n
few_ways n xs once below =
    let l : length xs ≤ length (ways_below n) = no_more xs (ways_below n) once (all_by (ways_below n) xs (λ w h. in_ways n w (below w h))) in
    let e : length (ways_below n) ≡ n = length-ways n in
    omega arith

below_ways : (n w : ℕ) → is_in w (ways_below n) ≡ true → w < n
below_ways zero w h = cc
below_ways (suc n) w h =
    ⊎_elim (λ (e : n ≡ w). omega arith)
    (λ (ne : n ≢ w). let l : w < n = below_ways n w (sym (in_other w n (ways_below n) ne) ∙ h) in omega arith) (cases_eq n w)

-- where every way is there
pub many_ways : (n : ℕ) (xs : List ℕ) → ((w : ℕ) → w < n → is_in w xs ≡ true) → n ≤ length xs
many_ways n xs all =
    let l : length (ways_below n) ≤ length xs =
    no_more (ways_below n) xs (ways_once n) (all_by xs (ways_below n) (λ w h. all w (below_ways n w h))) in
    let e : length (ways_below n) ≡ n = length-ways n in
    omega arith

-- ---- members of an order

pub there_at : (xs : List ℕ) (i : ℕ) → i < length xs → is_in (get_or xs i 0) xs ≡ true
there_at [] i lt = absurd (omega arith)
there_at (x ∷ xs) zero lt = in_head x x xs refl
there_at (x ∷ xs) (suc i) lt = in_tail (get_or xs i 0) x xs (there_at xs i (omega arith))

pub without_last : (xs : List ℕ) (w : ℕ) → AreOnce xs → 0 < length xs → get_or xs (length xs - 1) 0 ≡ w → without w xs ≡ take (length xs - 1) xs
without_last [] w once pos e = absurd (omega arith)
without_last (x ∷ []) w once pos e = ap (λ b. cond b [] (x ∷ [])) (eq-eqb x w e)
without_last (x ∷ y ∷ ys) w once pos e =
    let n : suc (length (y ∷ ys) - 1) ≡ length (x ∷ y ∷ ys) - 1 = omega arith in
    let e' : get_or (y ∷ ys) (length (y ∷ ys) - 1) 0 ≡ w = ap (λ k. get_or (x ∷ y ∷ ys) k 0) n ∙ e in
    let t : is_in w (y ∷ ys) ≡ true = ap (λ v. is_in v (y ∷ ys)) (sym e') ∙ there_at (y ∷ ys) (length (y ∷ ys) - 1) (omega arith) in
    let ne : x ≢ w = (λ q. let z : true ≡ false = sym t ∙ ap (λ v. is_in v (y ∷ ys)) (sym q) ∙ once.0 in cc) in
    ap (λ b. cond b (y ∷ ys) (x ∷ without w (y ∷ ys))) (ne_eqb x w ne)
    ∙ ap (λ zs. x ∷ zs) (without_last (y ∷ ys) w once.1 (omega arith) e')
    ∙ ap (λ k. take k (x ∷ y ∷ ys)) n

-- ---- the way for a line that comes in

pub free_is : (n v w : ℕ) (order : List ℕ) → v ≤ w → w < v + n → ((u : ℕ) → u < w → is_in u order ≡ true) → is_in w order ≡ false → free_from n v order ≡ w
free_is zero v w order le lt before f = absurd (omega arith)
free_is (suc n) v w order le lt before f =
    ⊎_elim (λ (e : v ≡ w). ap (λ b. cond b (free_from n (suc v) order) v) (ap (λ u. is_in u order) e ∙ f) ∙ e)
    (λ (ne : v ≢ w). ap (λ b. cond b (free_from n (suc v) order) v) (before v (omega arith)) ∙ free_is n (suc v) w order (omega arith) (omega arith) before f)
    (cases_eq v w)

free_or_all : (n v : ℕ) (order : List ℕ) → ((is_in (free_from n v order) order ≡ false) × (free_from n v order < v + n)) ⊎ ((u : ℕ) → v ≤ u → u < v + n → is_in u order ≡ true)
free_or_all zero v order = inr (λ u a b. absurd (omega arith))
free_or_all (suc n) v order =
    ⊎_elim (λ (t : is_in v order ≡ true).
    let e : free_from (suc n) v order ≡ free_from n (suc v) order = ap (λ b. cond b (free_from n (suc v) order) v) t in
    ⊎_elim (λ (r : (is_in (free_from n (suc v) order) order ≡ false) × (free_from n (suc v) order < suc v + n)).
    inl (ap (λ w. is_in w order) e ∙ r.0, let l : free_from n (suc v) order < suc v + n = r.1 in omega (arith, e)))
    (λ (all : (u : ℕ) → suc v ≤ u → u < suc v + n → is_in u order ≡ true).
    inr (λ u a b. ⊎_elim (λ (same : v ≡ u). ap (λ k. is_in k order) (sym same) ∙ t) (λ (ne : v ≢ u). all u (omega arith) (omega arith)) (cases_eq v u)))
    (free_or_all n (suc v) order))
    (λ (f : is_in v order ≡ false).
    let e : free_from (suc n) v order ≡ v = ap (λ b. cond b (free_from n (suc v) order) v) f in
    inl (ap (λ w. is_in w order) e ∙ f, omega (arith, e)))
    (cases_Bool (is_in v order))

-- where there is room, it isn't in the order
pub way_absent : (room : ℕ) (order : List ℕ) → length order < room → (is_in (way_for room order) order ≡ false) × (way_for room order < room)
way_absent room order lt =
    let e : way_for room order ≡ free_from room 0 order = ap (λ b. cond b (free_from room 0 order) (get_or order (length order - 1) 0)) (lt-ltb (length order) room lt) in
    ⊎_elim (λ (r : (is_in (free_from room 0 order) order ≡ false) × (free_from room 0 order < 0 + room)).
    (ap (λ w. is_in w order) e ∙ r.0, let l : free_from room 0 order < 0 + room = r.1 in omega (arith, e)))
    (λ (all : (u : ℕ) → 0 ≤ u → u < 0 + room → is_in u order ≡ true).
    let m : room ≤ length order = many_ways room order (λ u b. all u (omega arith) (omega arith)) in absurd (omega arith))
    (free_or_all room 0 order)

-- else it is that of the last
pub way_of_last : (room : ℕ) (order : List ℕ) → room ≤ length order → way_for room order ≡ get_or order (length order - 1) 0
way_of_last room order ge = ap (λ b. cond b (free_from room 0 order) (get_or order (length order - 1) 0)) (le-ltb (length order) room ge)

-- it isn't among those that stay
pub way_leaves : (room : ℕ) (order : List ℕ) → 1 ≤ room → AreWays room order → (is_in (way_for room order) (take (room - 1) order) ≡ false) × (way_for room order < room)
way_leaves room order some h =
    let le : length order ≤ room = few_ways room order h.once h.below in
    ⊎_elim (λ (t : ltb (length order) room ≡ true).
    let lt : length order < room = ltb-true (length order) room t in
    let a : (is_in (way_for room order) order ≡ false) × (way_for room order < room) = way_absent room order lt in
    (ap (is_in (way_for room order)) (take_all (room - 1) order (omega arith)) ∙ a.0, a.1))
    (λ (f : ltb (length order) room ≡ false).
    let ge : room ≤ length order = ltb-false (length order) room f in
    let n : length order ≡ room = omega arith in
    let w : ℕ = get_or order (length order - 1) 0 in
    let e : way_for room order ≡ w = way_of_last room order ge in
    let k : without w order ≡ take (length order - 1) order = without_last order w h.once (omega arith) refl in (
      ap (λ v. is_in v (take (room - 1) order)) e ∙ ap (λ m. is_in w (take (m - 1) order)) (sym n) ∙ ap (is_in w) (sym k) ∙ (once_without w order h.once).0,
      let b : w < room = h.below w (there_at order (length order - 1) (omega arith)) in omega (arith, e),
    ))
    (cases_Bool (ltb (length order) room))

-- ---- what is kept

once_take : (n : ℕ) (xs : List ℕ) → AreOnce xs → AreOnce (take n xs)
once_take zero xs o = tt
once_take (suc n) [] o = tt
once_take (suc n) (x ∷ xs) o = (not_take x n xs o.0, once_take n xs o.1)
  where
    not_take : (x n : ℕ) (xs : List ℕ) → is_in x xs ≡ false → is_in x (take n xs) ≡ false
    not_take x zero xs f = refl
    not_take x (suc n) [] f = refl
    not_take x (suc n) (y ∷ ys) f =
        ⊎_elim (λ (e : y ≡ x). let z : true ≡ false = sym (in_head x y ys e) ∙ f in cc)
        (λ (ne : y ≢ x). in_other x y (take n ys) ne ∙ not_take x n ys (sym (in_other x y ys ne) ∙ f)) (cases_eq y x)

in_take : (x n : ℕ) (xs : List ℕ) → is_in x (take n xs) ≡ true → is_in x xs ≡ true
in_take x zero xs t = cc
in_take x (suc n) [] t = cc
in_take x (suc n) (y ∷ ys) t =
    ⊎_elim (λ (e : y ≡ x). in_head x y ys e)
    (λ (ne : y ≢ x). in_tail x y ys (in_take x n ys (sym (in_other x y (take n ys) ne) ∙ t))) (cases_eq y x)

pub no_ways : (room : ℕ) → AreWays room []
no_ways room = record { once = tt; below = λ w t. cc }

pub hit_ways : (rule : OrderRule) (room w : ℕ) (order : List ℕ) → KeepsMembers rule → AreWays room order → is_in w order ≡ true → AreWays room (rule w order)
hit_ways rule room w order k h t =
    let m : AreOnce (rule w order) × ((v : ℕ) → is_in v (rule w order) ≡ is_in v order) = k w order t h.once in
    record { once = m.0; below = λ v i. h.below v (sym (m.1 v) ∙ i) }

-- a way is in use behind a miss only if it was, or if it is the one that a line took
missed_before : (room v : ℕ) (order : List ℕ) → is_in v (way_for room order ∷ take (room - 1) order) ≡ true → way_for room order ≢ v → is_in v order ≡ true
missed_before room v order i ne = in_take v (room - 1) order (sym (in_other v (way_for room order) (take (room - 1) order) ne) ∙ i)

-- and all that were stay in use but for the one that goes, which is then taken
pub missed_after : (room v : ℕ) (order : List ℕ) → 1 ≤ room → AreWays room order → is_in v order ≡ true → is_in v (way_for room order ∷ take (room - 1) order) ≡ true
missed_after room v order some h t =
    let w : ℕ = way_for room order in
    let le : length order ≤ room = few_ways room order h.once h.below in
    ⊎_elim (λ (e : w ≡ v). in_head v w (take (room - 1) order) e)
    (λ (ne : w ≢ v).
    in_tail v w (take (room - 1) order)
    (⊎_elim (λ (lt : length order < room). ap (is_in v) (take_all (room - 1) order (omega arith)) ∙ t)
    (λ (ge : room ≤ length order).
    let last : w ≡ get_or order (length order - 1) 0 = way_of_last room order ge in
    let n : length order ≡ room = omega arith in
    ap (λ m. is_in v (take (m - 1) order)) (sym n) ∙ ap (is_in v) (sym (without_last order w h.once (omega arith) (sym last)))
    ∙ in_without w v order (λ e. ne (sym e)) ∙ t)
    (cases_lt (length order) room)))
    (cases_eq w v)

pub missed_ways : (room : ℕ) (order : List ℕ) → 1 ≤ room → AreWays room order → AreWays room (way_for room order ∷ take (room - 1) order)
missed_ways room order some h =
    let w : ℕ = way_for room order in
    let out : (is_in w (take (room - 1) order) ≡ false) × (w < room) = way_leaves room order some h in
    record {
      once = (out.0, once_take (room - 1) order h.once);
      below = λ v t. ⊎_elim (λ (same : w ≡ v). subst (λ k. k < room) same out.1) (λ (ne : w ≢ v). h.below v (missed_before room v order t ne)) (cases_eq w v);
    }
