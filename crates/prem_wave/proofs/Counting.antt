-- Marked calls that are counted as their intervals end.
use Rattle.std.specs.Prelude.{◌&&◌, ◌==◌, nat_lt, min, is_some, slice_index, slice_set}
use Rattle.std.proofs.Common.{◌≡◌, ◌≢◌, ℕ, zero, suc, ◌+◌, ◌-◌, ◌^◌, ◌<◌, ◌≤◌, Bool, true, false, cond, List, [], ◌∷◌, ◌++◌, length, drop, replicate}
use Rattle.std.proofs.Common.{length-append, append_assoc, append-nil, refl, ap, sym, ◌∙◌, subst, arith}
use Rattle.std.proofs.lemmas.Bool.Decides.{nat_tests}
use Rattle.prem_lru.specs.Entries.{ReplacementRule}
use Rattle.prem_gate.specs.declared.request.Request.{Request}
use Rattle.prem_gate.specs.Gates.{Turned}
use Rattle.prem_cycle.specs.declared.facts.EndedInterval.{EndedInterval}
use Rattle.prem_cycle.specs.declared.state.Mode.{Mode}
use Rattle.prem_cycle.specs.declared.state.Mode.TheVariants.{Point, Switching, Running, Idle}
use Rattle.prem_cycle.specs.State.{MachineState, Setup}
use Rattle.prem_cycle.specs.Core.{is_paid}
use Rattle.prem_cycle.specs.Cycle.{Arrivals, arrivals_at, at_point, bus_at, close_interval, core_at, cycle_with, ended_interval, ends_before, is_over, joined, settle, step_of, ticked, with_now}
use Rattle.prem_cycle.specs.Run.{cycles_of}
use Rattle.prem_cycle.proofs.RunLaws.{step_of-goes, step_of-stays}
use Rattle.prem_wave.specs.Calls.{AreCounted, all_counted, counted, one_more, with_call}
use Rattle.prem_wave.specs.Signals.{calls_of, each}

-- ---- a count in memory

pub set_past : (xs : List ℕ) (k x : ℕ) → length xs ≤ k → xs ≡ slice_set xs k x
set_past [] zero x le = refl
set_past [] (suc k) x le = refl
set_past (y ∷ xs) zero x le = absurd (omega (arith, le))
set_past (y ∷ xs) (suc k) x le = ap (λ ys. y ∷ ys) (set_past xs k x (omega (arith, le)))

pub set_is : (xs : List ℕ) (k : ℕ) → slice_set xs k (one_more (slice_index xs k)) ≡ with_call xs k
set_is [] zero = refl
set_is [] (suc k) = refl
set_is (x ∷ xs) zero = refl
set_is (x ∷ xs) (suc k) = ap (λ ys. x ∷ ys) (set_is xs k)

-- ---- one interval

call_length : (xs : List ℕ) (k : ℕ) → length (with_call xs k) ≡ length xs
call_length [] k = refl
call_length (x ∷ xs) zero = refl
call_length (x ∷ xs) (suc k) = ap suc (call_length xs k)

call_here : (xs : List ℕ) (k : ℕ) → k < length xs → slice_index (with_call xs k) k ≡ one_more (slice_index xs k)
call_here [] k lt = absurd (omega (arith, lt))
call_here (x ∷ xs) zero lt = refl
call_here (x ∷ xs) (suc k) lt = call_here xs k (omega (arith, lt))

call_other : (xs : List ℕ) (j k : ℕ) → j ≢ k → slice_index (with_call xs j) k ≡ slice_index xs k
call_other [] j k ne = refl
call_other (x ∷ xs) zero zero ne = absurd (ne refl)
call_other (x ∷ xs) zero (suc k) ne = refl
call_other (x ∷ xs) (suc j) zero ne = refl
call_other (x ∷ xs) (suc j) (suc k) ne = call_other xs j k (λ e. ne (ap suc e))

counted_length : (i : EndedInterval) (calls : List ℕ) → length (counted i calls) ≡ length calls
counted_length i calls = by i.predictable
  where
    by : (b : Bool) → length (cond b (with_call calls i.task) calls) ≡ length calls
    by true = call_length calls i.task
    by false = refl

one_below : (n most : ℕ) → n + 1 ≤ most → min (n + 1) most ≡ suc n
one_below n most le = omega (arith, le)

-- with what it adds to the count of task k
counted_is : (i : EndedInterval) (calls : List ℕ) (k n : ℕ) → k < length calls → slice_index calls k ≡ n → n + 1 ≤ 2 ^ 64 - 1 →
    slice_index (counted i calls) k ≡ cond (i.predictable && i.task == k) (suc n) n
counted_is i calls k n lt is few = by i.predictable (i.task == k) refl
  where
    by : (p b : Bool) → (i.task == k) ≡ b → slice_index (cond p (with_call calls i.task) calls) k ≡ cond (p && b) (suc n) n
    by false b e = is
    by true true e =
        let same : i.task ≡ k = grind (arith, nat_tests) in
        ap (λ j. slice_index (with_call calls j) k) same ∙ call_here calls k lt ∙ ap one_more is ∙ one_below n (2 ^ 64 - 1) few
    by true false e =
        let other : i.task ≢ k = λ same. absurd (grind (arith, nat_tests)) in
        call_other calls i.task k other ∙ is

-- ---- all intervals

calls_few : (k : ℕ) (intervals : List EndedInterval) → calls_of k intervals ≤ length intervals
calls_few k [] = omega arith
calls_few k (i ∷ intervals) = by (i.predictable && i.task == k) (calls_few k intervals)
  where
    by : (b : Bool) → calls_of k intervals ≤ length intervals → cond b (suc (calls_of k intervals)) (calls_of k intervals) ≤ suc (length intervals)
    by true h = omega (arith, h)
    by false h = omega (arith, h)

calls_append : (k : ℕ) (xs ys : List EndedInterval) → calls_of k (xs ++ ys) ≡ calls_of k xs + calls_of k ys
calls_append k [] ys = omega arith
calls_append k (i ∷ xs) ys = by (i.predictable && i.task == k) (calls_append k xs ys)
  where
    by : (b : Bool) → calls_of k (xs ++ ys) ≡ calls_of k xs + calls_of k ys →
        cond b (suc (calls_of k (xs ++ ys))) (calls_of k (xs ++ ys)) ≡ cond b (suc (calls_of k xs)) (calls_of k xs) + calls_of k ys
    by true h = omega (arith, h)
    by false h = h

all_length : (intervals : List EndedInterval) (calls : List ℕ) → length (all_counted intervals calls) ≡ length calls
all_length [] calls = refl
all_length (i ∷ intervals) calls = all_length intervals (counted i calls) ∙ counted_length i calls

all_are : (intervals : List EndedInterval) (calls : List ℕ) (k n : ℕ) → k < length calls → slice_index calls k ≡ n → n + length intervals ≤ 2 ^ 64 - 1 →
    slice_index (all_counted intervals calls) k ≡ n + calls_of k intervals
all_are [] calls k n lt is few = let e : n ≡ n + 0 = omega arith in is ∙ e
all_are (i ∷ intervals) calls k n lt is few =
    let e = counted_length i calls in
    by (i.predictable && i.task == k) (counted_is i calls k n lt is (omega (arith, few)))
    (λ m at room. all_are intervals (counted i calls) k m (omega (arith, e, lt)) at room)
  where
    by : (b : Bool) → slice_index (counted i calls) k ≡ cond b (suc n) n →
        ((m : ℕ) → slice_index (counted i calls) k ≡ m → m + length intervals ≤ 2 ^ 64 - 1 → slice_index (all_counted intervals (counted i calls)) k ≡ m + calls_of k intervals) →
        slice_index (all_counted intervals (counted i calls)) k ≡ n + cond b (suc (calls_of k intervals)) (calls_of k intervals)
    by true h go =
        let e : suc n + calls_of k intervals ≡ n + suc (calls_of k intervals) = omega arith in
        go (suc n) h (omega (arith, few)) ∙ e
    by false h go = go n h (omega (arith, few))

-- ---- more and more intervals end

pub record Grows (s t : MachineState) : Type 0 where
  pub new : List EndedInterval
  pub is : t.log.intervals ≡ s.log.intervals ++ new

grows_none : (s : MachineState) → Grows s s
grows_none s = record { new = []; is = sym (append-nil s.log.intervals) }

settle_grows : (mode : Mode) (s : MachineState) → Grows s (settle mode s)
settle_grows Point s = grows_none s
settle_grows (Switching k left) s = grows_none s
settle_grows (Running k) s = by (is_paid s.core.debt && ends_before s.now s.core.interval s.core.mark)
  where
    by : (b : Bool) → Grows s (cond b (close_interval k s) s)
    by true = record { new = ended_interval s.now k s.core.interval ∷ []; is = refl }
    by false = grows_none s
settle_grows (Idle until) s = by (nat_lt s.now until)
  where
    by : (b : Bool) → Grows s (cond b s (record s { core = at_point s.core }))
    by true = grows_none s
    by false = record { new = []; is = sym (append-nil s.log.intervals) }

ticked_grows : (s : MachineState) → Grows s (ticked s)
ticked_grows s = by (is_some s.trapped) (settle_grows s.core.mode (with_now s (s.now + 1)))
  where
    by : (b : Bool) → Grows (with_now s (s.now + 1)) (settle s.core.mode (with_now s (s.now + 1))) → Grows s (cond b s (settle s.core.mode (with_now s (s.now + 1))))
    by true h = grows_none s
    by false h = record { new = h.new; is = h.is }

cycle_grows : (rule : ReplacementRule) (p : Setup) (a : Arrivals) (b : Turned) (s : MachineState) → Grows s (cycle_with rule p a b s)
cycle_grows rule p a b s = let g = ticked_grows (joined a b (core_at rule p b s) s) in record { new = g.new; is = g.is }

step_grows : (rule : ReplacementRule) (p : Setup) (requests : List Request) (s : MachineState) (b : Bool) → is_over s ≡ b → Grows s (step_of rule p requests s)
step_grows rule p requests s true over = subst (Grows s) (sym (step_of-stays rule p requests s over)) (grows_none s)
step_grows rule p requests s false going =
    subst (Grows s) (sym (step_of-goes rule p requests s going)) (cycle_grows rule p (arrivals_at requests s) (bus_at (arrivals_at requests s).gates s) s)

grows_then : (s t u : MachineState) → Grows s t → Grows t u → Grows s u
grows_then s t u h k = record { new = h.new ++ k.new; is = k.is ∙ ap (λ xs. xs ++ k.new) h.is ∙ append_assoc s.log.intervals h.new k.new }

pub grows : (rule : ReplacementRule) (p : Setup) (requests : List Request) (n : ℕ) (s : MachineState) → Grows s (cycles_of rule p requests n s)
unfolding cycles_of
grows rule p requests zero s = grows_none s
grows rule p requests (suc n) s =
    let u = cycles_of rule p requests n s in
    grows_then s u (step_of rule p requests u) (grows rule p requests n s) (step_grows rule p requests u (is_over u) refl)

-- ---- what is counted behind those that were counted

drop_all : (xs ys : List EndedInterval) → drop (length xs) (xs ++ ys) ≡ ys
drop_all [] ys = refl
drop_all (x ∷ xs) ys = drop_all xs ys

counted_behind : (tasks : ℕ) (before new after : List EndedInterval) (calls calls' : List ℕ) → after ≡ before ++ new → length after ≤ 2 ^ 64 - 1 →
    calls' ≡ all_counted new calls → AreCounted tasks before calls → AreCounted tasks after calls'
counted_behind tasks before new after calls calls' is few told h =
    let whole : length after ≡ length before + length new = ap length is ∙ length-append before new in
    record {
      count = ap length told ∙ all_length new calls ∙ h.count;
      calls_are = λ k lt.
          let there : k < length calls = let e = h.count in omega (arith, e, lt) in
          let some = calls_few k before in
          ap (λ xs. slice_index xs k) told
          ∙ all_are new calls k (calls_of k before) there (h.calls_are k lt) (omega (arith, some, whole, few))
          ∙ sym (ap (calls_of k) is ∙ calls_append k before new);
    }

pub counted_on : (tasks : ℕ) (s t : MachineState) (before : ℕ) (calls calls' : List ℕ) → Grows s t → before ≡ length s.log.intervals → length t.log.intervals ≤ 2 ^ 64 - 1 →
    calls' ≡ all_counted (drop before t.log.intervals) calls → AreCounted tasks s.log.intervals calls → AreCounted tasks t.log.intervals calls'
counted_on tasks s t before calls calls' g at few told h =
    counted_behind tasks s.log.intervals g.new t.log.intervals calls calls' g.is few
    (told ∙ ap (λ xs. all_counted xs calls) (ap (λ n. drop n t.log.intervals) at ∙ ap (drop (length s.log.intervals)) g.is ∙ drop_all s.log.intervals g.new)) h

pub before_few : (s t : MachineState) (before : ℕ) → Grows s t → before ≡ length s.log.intervals → before ≤ length t.log.intervals
before_few s t before g at =
    let whole : length t.log.intervals ≡ length s.log.intervals + length g.new = ap length g.is ∙ length-append s.log.intervals g.new in
    omega (arith, whole, at)

none_counted : (tasks k : ℕ) → slice_index (replicate tasks 0) k ≡ 0
none_counted zero k = refl
none_counted (suc tasks) zero = refl
none_counted (suc tasks) (suc k) = none_counted tasks k

none_length : (tasks : ℕ) → length {A = ℕ} (replicate tasks 0) ≡ tasks
none_length zero = refl
none_length (suc tasks) = ap suc (none_length tasks)

-- from the first interval on
pub counted_all : (tasks : ℕ) (intervals : List EndedInterval) (calls calls' : List ℕ) → calls ≡ replicate tasks 0 → length intervals ≤ 2 ^ 64 - 1 →
    calls' ≡ all_counted (drop 0 intervals) calls → AreCounted tasks intervals calls'
counted_all tasks intervals calls calls' none few told =
    counted_behind tasks [] intervals intervals calls calls' refl few told
    (subst (AreCounted tasks []) (sym none) (record { count = none_length tasks; calls_are = λ k lt. none_counted tasks k }))

-- ---- values

pub each_below : {A : Type 0} (f g : ℕ → List A) (n : ℕ) → ((k : ℕ) → k < n → f k ≡ g k) → each f n ≡ each g n
each_below f g zero h = refl
each_below f g (suc n) h =
    ap (λ a. a ++ f n) (each_below f g n (λ k lt. h k (omega (arith, lt)))) ∙ ap (λ b. each g n ++ b) (h n (omega arith))
