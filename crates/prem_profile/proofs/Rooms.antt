-- Costs of calls in memory, and that there is room for another one.
use Rattle.std.specs.Prelude.{◌==◌, ◌&&◌, not, slice_index_or, slice_set}
use Rattle.std.proofs.lemmas.Bool.Decides.{nat_tests}
use Rattle.std.proofs.Common.{◌≡◌, ℕ, zero, suc, ◌+◌, ◌≤◌, ◌<◌, Bool, true, false, cond, List, [], ◌∷◌, length, map, get_or, refl, ap, sym, ◌∙◌, subst, arith}
use Rattle.prem_profile.specs.declared.cost.Cost.{Cost}
use Rattle.prem_profile.specs.declared.calls.WideCost.{WideCost}
use Rattle.prem_profile.specs.Spent.{no_cost, plus}
use Rattle.prem_profile.specs.Account.{with_cost}
use Rattle.prem_profile.specs.Calls.{HasWideRoom, LastCalls, caller_of, calls_of, costs_with, follow, function_at, is_first, narrow, noted, recent_with, settled, with_call, with_calls}
use Rattle.prem_profile.proofs.Turns.{none_plus, plus_assoc, plus_none, same_cost}
use Rattle.prem_profile.proofs.Called.{IsBelow, and_not, below_same, below_then}

-- ---- rows in memory

pub narrow_there : (ws : List WideCost) (r : ℕ) (d : WideCost) (z : Cost) → r < length ws → narrow (get_or ws r d) ≡ get_or (map narrow ws) r z
narrow_there [] r d z h = absurd (omega (arith, h))
narrow_there (w ∷ ws) zero d z h = refl
narrow_there (w ∷ ws) (suc r) d z h = narrow_there ws r d z (omega (arith, h))

pub narrow_past : (ws : List WideCost) (r : ℕ) (z : Cost) → length ws ≤ r → z ≡ get_or (map narrow ws) r z
narrow_past [] r z h = refl
narrow_past (w ∷ ws) zero z h = absurd (omega (arith, h))
narrow_past (w ∷ ws) (suc r) z h = narrow_past ws r z (omega (arith, h))

pub wide_past : (ws : List WideCost) (r : ℕ) (w : WideCost) → length ws ≤ r → ws ≡ slice_set ws r w
wide_past [] zero w le = refl
wide_past [] (suc r) w le = refl
wide_past (y ∷ ws) zero w le = absurd (omega (arith, le))
wide_past (y ∷ ws) (suc r) w le = ap (λ xs. y ∷ xs) (wide_past ws r w (omega (arith, le)))

pub wide_booked : (ws : List WideCost) (r : ℕ) (w : WideCost) (c : Cost) → narrow w ≡ plus (slice_index_or (map narrow ws) r no_cost) c → map narrow (slice_set ws r w) ≡ with_cost (map narrow ws) r c
wide_booked [] zero w c e = refl
wide_booked [] (suc r) w c e = refl
wide_booked (y ∷ ws) zero w c e = ap (λ x. x ∷ map narrow ws) e
wide_booked (y ∷ ws) (suc r) w c e = ap (λ xs. narrow y ∷ xs) (wide_booked ws r w c e)

-- ---- room

-- no more than a cost more
record IsMore (a b c : Cost) : Type 0 where
  instructions : b.instructions ≤ a.instructions + c.instructions
  cycles : b.cycles ≤ a.cycles + c.cycles
  misses : b.misses ≤ a.misses + c.misses
  backs : b.backs ≤ a.backs + c.backs

booked_more : (costs : List Cost) (r row : ℕ) (c : Cost) → IsMore (slice_index_or costs row no_cost) (slice_index_or (with_cost costs r c) row no_cost) c
booked_more [] zero row c = record { instructions = omega arith; cycles = omega arith; misses = omega arith; backs = omega arith }
booked_more [] (suc r) row c = record { instructions = omega arith; cycles = omega arith; misses = omega arith; backs = omega arith }
booked_more (x ∷ costs) zero zero c = record { instructions = omega arith; cycles = omega arith; misses = omega arith; backs = omega arith }
booked_more (x ∷ costs) zero (suc row) c = record { instructions = omega arith; cycles = omega arith; misses = omega arith; backs = omega arith }
booked_more (x ∷ costs) (suc r) zero c = record { instructions = omega arith; cycles = omega arith; misses = omega arith; backs = omega arith }
booked_more (x ∷ costs) (suc r) (suc row) c = booked_more costs r row c

pub room_next : (n left : ℕ) (costs new : List Cost) (c : Cost) (r : ℕ) → left ≡ suc n → new ≡ with_cost costs r c → HasWideRoom left costs c → HasWideRoom n new c
room_next n left costs new c r e en room row =
    let h : HasWideRoom (suc n) costs c = subst (λ k. HasWideRoom k costs c) e room in
    let i = (h row).instructions in
    let w = (h row).cycles in
    let m = (h row).misses in
    let x = (h row).backs in
    let more : IsMore (slice_index_or costs row no_cost) (slice_index_or new row no_cost) c =
    subst (λ (xs : List Cost). IsMore (slice_index_or costs row no_cost) (slice_index_or xs row no_cost) c) (sym en) (booked_more costs r row c) in
    let i' = more.instructions in
    let w' = more.cycles in
    let m' = more.misses in
    let x' = more.backs in
    record { instructions = omega (arith, i, i'); cycles = omega (arith, w, w'); misses = omega (arith, m, m'); backs = omega (arith, x, x') }

-- ---- the calls in which a row stands, one after another

pub calls_next : (n left : ℕ) (functions callers : List ℕ) (row caller : ℕ) (costs new whole : List Cost) (c : Cost) → left ≡ suc n → caller ≡ caller_of functions callers row → (caller ≡ 0 → ⊥) →
    new ≡ with_cost costs caller c → with_calls costs (calls_of left functions callers row) c ≡ whole → with_calls new (calls_of n functions callers caller) c ≡ whole
calls_next n left functions callers row zero costs new whole c e is some en last = absurd (some refl)
calls_next n left functions callers row (suc k) costs new whole c e is some en last =
    let here : calls_of left functions callers row ≡ suc k ∷ calls_of n functions callers (suc k) =
    ap (λ m. calls_of m functions callers row) e ∙ ap (follow (calls_of n functions callers)) (sym is) in
    ap (λ xs. with_calls xs (calls_of n functions callers (suc k)) c) en ∙ ap (λ rs. with_calls costs rs c) (sym here) ∙ last

-- ---- costs that are booked later

booked_none : (costs : List Cost) (r : ℕ) → with_cost costs r no_cost ≡ costs
booked_none [] r = refl
booked_none (x ∷ costs) zero = ap (λ y. y ∷ costs) (plus_none x)
booked_none (x ∷ costs) (suc r) = ap (λ xs. x ∷ xs) (booked_none costs r)

pub nothing_settled : (costs : List Cost) (open_calls : List ℕ) → with_calls costs open_calls no_cost ≡ costs
nothing_settled costs [] = refl
nothing_settled costs (r ∷ rs) = ap (λ xs. with_calls xs rs no_cost) (booked_none costs r) ∙ nothing_settled costs rs

booked_grows : (costs : List Cost) (r : ℕ) (c : Cost) (row : ℕ) → IsBelow (get_or costs row no_cost) (get_or (with_cost costs r c) row no_cost)
booked_grows [] r c row = below_same no_cost
booked_grows (x ∷ costs) zero c zero = record { instructions = omega arith; cycles = omega arith; misses = omega arith; backs = omega arith }
booked_grows (x ∷ costs) zero c (suc row) = below_same (get_or costs row no_cost)
booked_grows (x ∷ costs) (suc r) c zero = below_same x
booked_grows (x ∷ costs) (suc r) c (suc row) = booked_grows costs r c row

pub calls_grow : (costs : List Cost) (open_calls : List ℕ) (c : Cost) (row : ℕ) → IsBelow (get_or costs row no_cost) (get_or (with_calls costs open_calls c) row no_cost)
calls_grow costs [] c row = below_same (get_or costs row no_cost)
calls_grow costs (r ∷ rs) c row =
    below_then (get_or costs row no_cost) (get_or (with_cost costs r c) row no_cost) (get_or (with_calls (with_cost costs r c) rs c) row no_cost) (booked_grows costs r c row)
    (calls_grow (with_cost costs r c) rs c row)

in_turn : (x a c : Cost) → plus (plus x a) c ≡ plus (plus x c) a
in_turn x a c = same_cost (plus (plus x a) c) (plus (plus x c) a) (omega arith) (omega arith) (omega arith) (omega arith)

booked_in_turn : (costs : List Cost) (r s : ℕ) (a c : Cost) → with_cost (with_cost costs r a) s c ≡ with_cost (with_cost costs s c) r a
booked_in_turn [] r s a c = refl
booked_in_turn (x ∷ costs) zero zero a c = ap (λ y. y ∷ costs) (in_turn x a c)
booked_in_turn (x ∷ costs) zero (suc s) a c = refl
booked_in_turn (x ∷ costs) (suc r) zero a c = refl
booked_in_turn (x ∷ costs) (suc r) (suc s) a c = ap (λ xs. x ∷ xs) (booked_in_turn costs r s a c)

booked_twice : (costs : List Cost) (r : ℕ) (a c : Cost) → with_cost (with_cost costs r a) r c ≡ with_cost costs r (plus a c)
booked_twice [] r a c = refl
booked_twice (x ∷ costs) zero a c = ap (λ y. y ∷ costs) (plus_assoc x a c)
booked_twice (x ∷ costs) (suc r) a c = ap (λ xs. x ∷ xs) (booked_twice costs r a c)

calls_in_turn : (costs : List Cost) (rs : List ℕ) (r : ℕ) (a c : Cost) → with_cost (with_calls costs rs a) r c ≡ with_calls (with_cost costs r c) rs a
calls_in_turn costs [] r a c = refl
calls_in_turn costs (s ∷ rs) r a c = calls_in_turn (with_cost costs s a) rs r a c ∙ ap (λ xs. with_calls xs rs a) (booked_in_turn costs s r a c)

calls_twice : (costs : List Cost) (rs : List ℕ) (a c : Cost) → with_calls (with_calls costs rs a) rs c ≡ with_calls costs rs (plus a c)
calls_twice costs [] a c = refl
calls_twice costs (r ∷ rs) a c =
    ap (λ xs. with_calls xs rs c) (calls_in_turn (with_cost costs r a) rs r a c ∙ ap (λ xs. with_calls xs rs a) (booked_twice costs r a c))
    ∙ calls_twice (with_cost costs r (plus a c)) rs a c

-- ---- behind another cycle

same_function : (m n : ℕ) → (m == n) ≡ true → m ≡ n
same_function m n e = grind (arith, nat_tests)

-- rows of one function stand in the same calls
calls_same : (most : ℕ) (functions callers : List ℕ) (row row' : ℕ) → function_at functions row ≡ function_at functions row' → calls_of most functions callers row ≡ calls_of most functions callers row'
calls_same zero functions callers row row' e = refl
calls_same (suc n) functions callers row row' e = ap (λ f. follow (calls_of n functions callers) (slice_index_or callers f 0)) e

abbrev with_note : (functions : List ℕ) (row row' : ℕ) (calls : LastCalls) → Bool → LastCalls
with_note functions row row' calls b = cond b (with_call (function_at functions row') row calls) calls

pub settled_next : (most : ℕ) (functions : List ℕ) (calls : LastCalls) (row row' : ℕ) (recent cost : Cost) (costs : List Cost) →
    settled most functions (noted functions row row' calls).callers row' (recent_with functions row row' recent cost) (costs_with most functions calls.callers row row' recent costs)
    ≡ with_calls (settled most functions calls.callers row recent costs) (calls_of most functions (noted functions row row' calls).callers row') cost
settled_next most functions calls row row' recent cost costs = by (function_at functions row == function_at functions row') refl
  where
    before : List Cost
    before = settled most functions calls.callers row recent costs

    by : (b : Bool) → (function_at functions row == function_at functions row') ≡ b →
        with_calls (cond b costs before) (calls_of most functions (with_note functions row row' calls (is_first functions row' && not b)).callers row') (plus (cond b recent no_cost) cost)
        ≡ with_calls before (calls_of most functions (with_note functions row row' calls (is_first functions row' && not b)).callers row') cost
    by true e =
        let same = calls_same most functions calls.callers row row' (same_function (function_at functions row) (function_at functions row') e) in
        subst (λ n. with_calls costs (calls_of most functions (with_note functions row row' calls n).callers row') (plus recent cost)
        ≡ with_calls before (calls_of most functions (with_note functions row row' calls n).callers row') cost) (sym (and_not (is_first functions row')))
        (sym (calls_twice costs (calls_of most functions calls.callers row') recent cost) ∙ ap (λ rs. with_calls (with_calls costs rs recent) (calls_of most functions calls.callers row') cost) (sym same))
    by false e = ap (with_calls before (calls_of most functions (with_note functions row row' calls (is_first functions row' && not false)).callers row')) (none_plus cost)

-- what was spent before that
abbrev pub earlier_with : (functions : List ℕ) (row row' : ℕ) (earlier all : Cost) → Cost
earlier_with functions row row' earlier all = cond (function_at functions row == function_at functions row') earlier all

pub earlier_next : (functions : List ℕ) (row row' : ℕ) (earlier recent all cost : Cost) → plus earlier recent ≡ all →
    plus (earlier_with functions row row' earlier all) (recent_with functions row row' recent cost) ≡ plus all cost
earlier_next functions row row' earlier recent all cost e = by (function_at functions row == function_at functions row')
  where
    by : (b : Bool) → plus (cond b earlier all) (plus (cond b recent no_cost) cost) ≡ plus all cost
    by true = sym (plus_assoc earlier recent cost) ∙ ap (λ c. plus c cost) e
    by false = ap (plus all) (none_plus cost)
