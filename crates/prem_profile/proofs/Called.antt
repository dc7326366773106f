-- The calls of a run, turn by turn, and what is spent in them.
use Rattle.std.specs.Prelude.{◌==◌, ◌&&◌, not}
use Rattle.std.proofs.Common.{◌≡◌, ℕ, zero, suc, ◌+◌, ◌-◌, ◌*◌, ◌≤◌, ◌<◌, ◌^◌, Bool, true, false, cond, List, [], ◌∷◌, refl, ap, ap₂, sym, ◌∙◌, subst, arith}
use Rattle.std.proofs.lemmas.Bool.Decides.{nat_tests}
use Rattle.prem_lru.specs.Entries.{ReplacementRule}
use Rattle.prem_gate.specs.declared.request.Request.{Request}
use Rattle.prem_cycle.specs.State.{Setup, MachineState}
use Rattle.prem_cycle.specs.Cycle.{is_over, step_of}
use Rattle.prem_cycle.specs.Run.{cycles_of}
use Rattle.prem_cycle.proofs.RunLaws.{cycles_of-add, cycles_of-over}
use Rattle.prem_profile.specs.declared.cost.Cost.{Cost}
use Rattle.prem_profile.specs.declared.home.Home.{Home}
use Rattle.prem_profile.specs.Spent.{cycle_cost, home_after, no_cost, plus, spent, spent_in_all, where_so}
use Rattle.prem_profile.specs.Turn.{IsTurn}
use Rattle.prem_profile.specs.Account.{Fits, each_row}
use Rattle.prem_profile.specs.Calls.{FitsWide, LastCalls, caller_of, calls_after, calls_of, follow, function_at, functions_of, is_call, is_first, no_calls, noted, spent_in, spent_within, times, with_call, with_calls}
use Rattle.prem_profile.specs.Strips.{Strip}
use Rattle.prem_profile.proofs.Turns.{IsSmall, cycle_small, cycles_later, home_after-add, none_plus, over_cost, plus_assoc, plus_none, plus_small, same_cost, step_later, where_none, where_plus, where_small}
use Rattle.prem_profile.proofs.Booking.{none_small, rows_same, with_row}

-- ---- a cost in calls

in_none : (open_calls : List ℕ) (call : ℕ) → spent_in open_calls call no_cost ≡ no_cost
in_none [] call = refl
in_none (r ∷ rs) call = ap₂ plus (where_none (r == call)) (in_none rs call) ∙ none_plus no_cost

swapped : (a b x y : Cost) → plus (plus a x) (plus b y) ≡ plus (plus a b) (plus x y)
swapped a b x y = same_cost (plus (plus a x) (plus b y)) (plus (plus a b) (plus x y)) (omega arith) (omega arith) (omega arith) (omega arith)

in_plus : (open_calls : List ℕ) (call : ℕ) (a c : Cost) → plus (spent_in open_calls call a) (spent_in open_calls call c) ≡ spent_in open_calls call (plus a c)
in_plus [] call a c = none_plus no_cost
in_plus (r ∷ rs) call a c =
    swapped (where_so (r == call) a) (where_so (r == call) c) (spent_in rs call a) (spent_in rs call c) ∙ ap₂ plus (where_plus (r == call) a c) (in_plus rs call a c)

-- it is booked row by row
pub with_open : (f g : ℕ → Cost) (open_calls : List ℕ) (n : ℕ) (c : Cost) → ((i : ℕ) → g i ≡ plus (f i) (spent_in open_calls i c)) →
    with_calls (each_row f 0 n) open_calls c ≡ each_row g 0 n
with_open f g [] n c is = rows_same f g 0 n (λ i le. sym (is i ∙ plus_none (f i)))
with_open f g (r ∷ rs) n c is =
    let h : ℕ → Cost = λ i. plus (f i) (where_so (r == i) c) in
    ap (λ costs. with_calls costs rs c) (with_row f h r n c (λ i. refl))
    ∙ with_open h g rs n c (λ i. is i ∙ sym (plus_assoc (f i) (where_so (r == i) c) (spent_in rs i c)))

-- ---- stretches one behind another

module _ (most : ℕ) (functions : List ℕ) (rows : Home → ℕ) (rule : ReplacementRule) (p : Setup) (requests : List Request) where
  pub calls_after-add : (before : Home) (calls : LastCalls) (m n : ℕ) (s : MachineState) →
      calls_after functions rows rule p requests before calls (m + n) s
      ≡ calls_after functions rows rule p requests (home_after rule p requests before m s) (calls_after functions rows rule p requests before calls m s) n (cycles_of rule p requests m s)
  unfolding calls_after
  calls_after-add before calls m zero s =
      let e : m + 0 ≡ m = omega arith in
      ap (λ k. calls_after functions rows rule p requests before calls k s) e
  calls_after-add before calls m (suc n) s =
      let e : m + suc n ≡ suc (m + n) = omega arith in
      let f : suc (m + n) ≡ m + suc n = omega arith in
      let last = home_after-add rule p requests before m n s in
      let next = ap (λ k. home_after rule p requests before k s) f ∙ home_after-add rule p requests before m (suc n) s in
      let first = calls_after-add before calls m n s in
      ap (λ k. calls_after functions rows rule p requests before calls k s) e ∙ (λ i. noted functions (rows (last i)) (rows (next i)) (first i))

  pub spent_within-add : (call : ℕ) (before : Home) (calls : LastCalls) (m n : ℕ) (s : MachineState) →
      spent_within most functions rows call rule p requests before calls (m + n) s
      ≡ plus (spent_within most functions rows call rule p requests before calls m s)
      (spent_within most functions rows call rule p requests (home_after rule p requests before m s) (calls_after functions rows rule p requests before calls m s) n (cycles_of rule p requests m s))
  unfolding spent_within
  spent_within-add call before calls m zero s =
      let e : m + 0 ≡ m = omega arith in
      ap (λ k. spent_within most functions rows call rule p requests before calls k s) e ∙ sym (plus_none (spent_within most functions rows call rule p requests before calls m s))
  spent_within-add call before calls m (suc n) s =
      let e : m + suc n ≡ suc (m + n) = omega arith in
      let f : suc (m + n) ≡ m + suc n = omega arith in
      let t = cycles_of rule p requests m s in
      let h = home_after rule p requests before m s in
      let k = calls_after functions rows rule p requests before calls m s in
      let home = ap (λ j. home_after rule p requests before j s) f ∙ home_after-add rule p requests before m (suc n) s in
      let known = ap (λ j. calls_after functions rows rule p requests before calls j s) f ∙ calls_after-add before calls m (suc n) s in
      let at = cycles_of-add rule p requests m n s in
      let first = spent_within-add call before calls m n s in
      ap (λ j. spent_within most functions rows call rule p requests before calls j s) e
      ∙ (λ i. plus (first i) (spent_in (calls_of most functions (known i).callers (rows (home i))) call (cycle_cost rule p requests (at i))))
      ∙ plus_assoc (spent_within most functions rows call rule p requests before calls m s) (spent_within most functions rows call rule p requests h k n t)
      (spent_in (calls_of most functions (calls_after functions rows rule p requests h k (suc n) t).callers (rows (home_after rule p requests h (suc n) t))) call (cycle_cost rule p requests (cycles_of rule p requests n t)))

-- ---- a turn

pub and_not : (b : Bool) → (b && not true) ≡ false
and_not true = refl
and_not false = refl

self_row : (m : ℕ) → (m == m) ≡ true
self_row m = let e : m ≡ m = refl in grind (arith, nat_tests)

-- who stays where he is calls nobody
pub noted_same : (functions : List ℕ) (row : ℕ) (calls : LastCalls) → noted functions row row calls ≡ calls
noted_same functions row calls =
    let none : is_call functions row row ≡ false =
    ap (λ b. is_first functions row && not b) (self_row (function_at functions row)) ∙ and_not (is_first functions row) in
    ap (λ b. cond b (with_call (function_at functions row) row calls) calls) none

module _ (most : ℕ) (functions : List ℕ) (rows : Home → ℕ) (rule : ReplacementRule) (p : Setup) (requests : List Request) (before : Home) (calls : LastCalls) (n : ℕ) (s : MachineState)
    (home : Home) (cost : Cost) (turn : IsTurn rule p requests before n s home cost) where
  within_turn : (m : ℕ) → m < n → calls_after functions rows rule p requests before calls (suc m) s ≡ noted functions (rows before) (rows home) calls
  unfolding calls_after home_after
  within_turn zero lt = ap (λ h. noted functions (rows before) (rows h) calls) (turn.homes 0 lt)
  within_turn (suc m) lt =
      let last : m < n = omega (arith, lt) in
      (λ i. noted functions (rows (turn.homes m last i)) (rows (turn.homes (suc m) lt i)) (within_turn m last i))
      ∙ noted_same functions (rows home) (noted functions (rows before) (rows home) calls)

  pub turn_calls : (m : ℕ) → suc m ≡ n → calls_after functions rows rule p requests before calls n s ≡ noted functions (rows before) (rows home) calls
  turn_calls m is = ap (λ k. calls_after functions rows rule p requests before calls k s) (sym is) ∙ within_turn m (omega (arith, is))

  spent_turn : (call m : ℕ) → m ≤ n →
      spent_within most functions rows call rule p requests before calls m s
      ≡ spent_in (calls_of most functions (noted functions (rows before) (rows home) calls).callers (rows home)) call (spent_in_all rule p requests before m s)
  unfolding spent_within spent
  spent_turn call zero le = sym (in_none (calls_of most functions (noted functions (rows before) (rows home) calls).callers (rows home)) call)
  spent_turn call (suc m) le =
      let lt : m < n = omega (arith, le) in
      let last = cycle_cost rule p requests (cycles_of rule p requests m s) in
      let all = spent_in_all rule p requests before m s in
      (λ i. plus (spent_turn call m (omega (arith, le)) i) (spent_in (calls_of most functions (within_turn m lt i).callers (rows (turn.homes m lt i))) call last))
      ∙ in_plus (calls_of most functions (noted functions (rows before) (rows home) calls).callers (rows home)) call all last

  pub turn_within : (call : ℕ) →
      spent_within most functions rows call rule p requests before calls n s ≡ spent_in (calls_of most functions (noted functions (rows before) (rows home) calls).callers (rows home)) call cost
  turn_within call =
      spent_turn call n (omega arith) ∙ ap (spent_in (calls_of most functions (noted functions (rows before) (rows home) calls).callers (rows home)) call) (turn.spent_is (λ h. true))

-- ---- where a run is over

pub over_within : (most : ℕ) (functions : List ℕ) (rows : Home → ℕ) (call : ℕ) (rule : ReplacementRule) (p : Setup) (requests : List Request) (before : Home) (calls : LastCalls) (n : ℕ) (s : MachineState) →
    is_over s ≡ true → spent_within most functions rows call rule p requests before calls n s ≡ no_cost
unfolding spent_within
over_within most functions rows call rule p requests before calls zero s h = refl
over_within most functions rows call rule p requests before calls (suc n) s h =
    let open_calls = calls_of most functions (calls_after functions rows rule p requests before calls (suc n) s).callers (rows (home_after rule p requests before (suc n) s)) in
    let none : cycle_cost rule p requests (cycles_of rule p requests n s) ≡ no_cost = ap (cycle_cost rule p requests) (cycles_of-over rule p requests n s h) ∙ over_cost rule p requests s h in
    ap₂ plus (over_within most functions rows call rule p requests before calls n s h) (ap (spent_in open_calls call) none ∙ in_none open_calls call) ∙ none_plus no_cost

-- ---- bounds

times_sum : (n a b : ℕ) → times n a + times n b ≡ times n (a + b)
times_sum zero a b = refl
times_sum (suc n) a b = let h = times_sum n a b in omega (arith, h)

times_more : (n a b : ℕ) → a ≤ b → times n a ≤ times n b
times_more zero a b le = omega arith
times_more (suc n) a b le = let h = times_more n a b le in omega (arith, h, le)

times_is : (n : ℕ) → times n (2 ^ 61) ≡ n * 2 ^ 61
times_is zero = refl
times_is (suc n) = let h = times_is n in omega (arith, h)

follow_small : (rest : ℕ → List ℕ) (caller call k m : ℕ) (c : Cost) → IsSmall k c → ((r : ℕ) → IsSmall m (spent_in (rest r) call c)) → IsSmall (k + m) (spent_in (follow rest caller) call c)
follow_small rest zero call k m c h each = none_small (k + m)
follow_small rest (suc r) call k m c h each = plus_small k m (where_so (suc r == call) c) (spent_in (rest (suc r)) call c) (where_small (suc r == call) k c h) (each (suc r))

in_small : (most : ℕ) (functions callers : List ℕ) (row call k : ℕ) (c : Cost) → IsSmall k c → IsSmall (times most k) (spent_in (calls_of most functions callers row) call c)
in_small zero functions callers row call k c h = none_small 0
in_small (suc n) functions callers row call k c h =
    follow_small (calls_of n functions callers) (caller_of functions callers row) call k (times n k) c h (λ r. in_small n functions callers r call k c h)

pub within_small : (most : ℕ) (functions : List ℕ) (rows : Home → ℕ) (call : ℕ) (rule : ReplacementRule) (p : Setup) (requests : List Request) (before : Home) (calls : LastCalls) (n : ℕ) (s : MachineState) →
    IsSmall (times most ((cycles_of rule p requests n s).now - s.now)) (spent_within most functions rows call rule p requests before calls n s)
unfolding spent_within cycles_of
within_small most functions rows call rule p requests before calls zero s = none_small (times most (s.now - s.now))
within_small most functions rows call rule p requests before calls (suc n) s =
    let u = cycles_of rule p requests n s in
    let v = step_of rule p requests u in
    let from = cycles_later rule p requests n s in
    let last = step_later rule p requests u in
    let sum : (u.now - s.now) + (v.now - u.now) ≡ v.now - s.now = omega (arith, from, last) in
    let known = calls_after functions rows rule p requests before calls (suc n) s in
    let row = rows (home_after rule p requests before (suc n) s) in
    let first = spent_within most functions rows call rule p requests before calls n s in
    let second = spent_in (calls_of most functions known.callers row) call (cycle_cost rule p requests u) in
    subst (λ k. IsSmall k (plus first second)) (times_sum most (u.now - s.now) (v.now - u.now) ∙ ap (times most) sum)
    (plus_small (times most (u.now - s.now)) (times most (v.now - u.now)) first second (within_small most functions rows call rule p requests before calls n s)
    (in_small most functions known.callers row call (v.now - u.now) (cycle_cost rule p requests u) (cycle_small rule p requests u)))

times_twice : (n : ℕ) → times n (2 ^ 62) ≡ n * 2 ^ 62
times_twice zero = refl
times_twice (suc n) = let h = times_twice n in omega (arith, h)

-- a cost of no more than so many cycles, one of which brings in and writes back two lines at most
pub record IsFew (c : Cost) : Type 0 where
  pub instructions : c.instructions ≤ 2 ^ 61
  pub cycles : c.cycles ≤ 2 ^ 61
  pub misses : c.misses ≤ 2 ^ 62
  pub backs : c.backs ≤ 2 ^ 62

pub record IsBelow (a b : Cost) : Type 0 where
  pub instructions : a.instructions ≤ b.instructions
  pub cycles : a.cycles ≤ b.cycles
  pub misses : a.misses ≤ b.misses
  pub backs : a.backs ≤ b.backs

pub below_same : (a : Cost) → IsBelow a a
below_same a = record { instructions = omega arith; cycles = omega arith; misses = omega arith; backs = omega arith }

pub below_then : (a b c : Cost) → IsBelow a b → IsBelow b c → IsBelow a c
below_then a b c h k =
    let i = h.instructions in
    let i' = k.instructions in
    let w = h.cycles in
    let w' = k.cycles in
    let m = h.misses in
    let m' = k.misses in
    let x = h.backs in
    let x' = k.backs in
    record { instructions = omega (arith, i, i'); cycles = omega (arith, w, w'); misses = omega (arith, m, m'); backs = omega (arith, x, x') }

pub few_small : (c : Cost) → IsSmall (2 ^ 61) c → IsFew c
few_small c h =
    let i = h.instructions in
    let m = h.misses in
    let x = h.backs in
    let w = h.within in
    record { instructions = omega (arith, i, w); cycles = w; misses = omega (arith, m, w); backs = omega (arith, x, w) }

-- a part of it
pub few_part : (a b whole : Cost) → plus a b ≡ whole → IsFew whole → IsFew b
few_part a b whole e h =
    let f : IsFew (plus a b) = subst IsFew (sym e) h in
    let i = f.instructions in
    let w = f.cycles in
    let m = f.misses in
    let x = f.backs in
    record { instructions = omega (arith, i); cycles = omega (arith, w); misses = omega (arith, m); backs = omega (arith, x) }

pub few_fit : (a b : Cost) → IsFew a → IsFew b → Fits a b
few_fit a b h k =
    let i = h.instructions in
    let i' = k.instructions in
    let w = h.cycles in
    let w' = k.cycles in
    let m = h.misses in
    let m' = k.misses in
    let x = h.backs in
    let x' = k.backs in
    record { instructions = omega (arith, i, i'); cycles = omega (arith, w, w'); misses = omega (arith, m, m'); backs = omega (arith, x, x') }

-- what is booked in calls in a run of no more than 2^61 cycles, of which fewer than 2^64 are open at once, and what was spent of late are words of 128 bits
pub wide_fits : (most cycles : ℕ) (a b c : Cost) → most < 2 ^ 64 → cycles ≤ 2 ^ 61 → IsBelow a b → IsSmall (times most cycles) b → IsFew c →
    FitsWide a (record { instructions = times most c.instructions; cycles = times most c.cycles; misses = times most c.misses; backs = times most c.backs })
wide_fits most cycles a b c few le below h k =
    let more = times_more most cycles (2 ^ 61) le in
    let is = times_is most in
    let twice = times_twice most in
    let w = h.within in
    let i = h.instructions in
    let m = h.misses in
    let x = h.backs in
    let bi = below.instructions in
    let bw = below.cycles in
    let bm = below.misses in
    let bx = below.backs in
    let j = times_more most c.instructions (2 ^ 61) k.instructions in
    let y = times_more most c.cycles (2 ^ 61) k.cycles in
    let z = times_more most c.misses (2 ^ 62) k.misses in
    let u = times_more most c.backs (2 ^ 62) k.backs in
    record {
      instructions = omega (arith, more, is, few, i, w, bi, j);
      cycles = omega (arith, more, is, few, w, bw, y);
      misses = omega (arith, more, is, twice, few, m, w, bm, z);
      backs = omega (arith, more, is, twice, few, x, w, bx, u);
    }

-- ---- worked calls: a start in rows 3 and 4, and functions in rows 5 to 7 and in rows 8 and 9

abbrev words_of : (called : Bool) (count : ℕ) → Strip
words_of called count = record { task = 0; name = []; called = called; at = 0; count = count; lines = [] }

abbrev three : List ℕ
three = functions_of 1 (words_of false 2 ∷ words_of true 3 ∷ words_of true 2 ∷ [])

functions_worked : three ≡ 0 ∷ 0 ∷ 0 ∷ 0 ∷ 0 ∷ 2 ∷ 2 ∷ 2 ∷ 3 ∷ 3 ∷ []
functions_worked = refl

-- the start's last word calls the second one, and the last word of that the first one
abbrev two_calls : LastCalls
two_calls = noted three 9 5 (noted three 4 8 (no_calls 3 10))

callers_worked : two_calls ≡ record { callers = 0 ∷ 0 ∷ 9 ∷ 4 ∷ []; callees = 0 ∷ 0 ∷ 0 ∷ 0 ∷ 3 ∷ 0 ∷ 0 ∷ 0 ∷ 0 ∷ 2 ∷ [] }
callers_worked = refl

-- a return, which goes on behind the call, a jump back in a function, and a switch call nothing
others_worked : noted three 1 3 (noted three 7 5 (noted three 7 9 two_calls)) ≡ two_calls
others_worked = refl

open_worked : calls_of 3 three two_calls.callers 6 ≡ 9 ∷ 4 ∷ []
open_worked = refl

start_worked : calls_of 3 three two_calls.callers 4 ≡ []
start_worked = refl
