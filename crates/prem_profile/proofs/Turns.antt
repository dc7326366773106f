-- What is spent in one cycle, in dull cycles, and in stretches of a run.
use Rattle.std.specs.Prelude.{is_some, nat_lt, nat_le, max, ◌||◌, if◌then◌else◌}
use Rattle.std.proofs.Common.{◌≡◌, ℕ, zero, suc, ◌+◌, ◌-◌, ◌*◌, ◌≤◌, ◌<◌, Bool, true, false, cond, List, [], ◌∷◌, length, length-append, Option, Some, None, refl, ap, ap₂, sym, ◌∙◌, subst, arith}
use Rattle.std.proofs.lemmas.Bool.Decides.{nat_tests}
use Rattle.prem_sched.specs.declared.sched.TaskJobs.{TaskJobs}
use Rattle.prem_isa.specs.Plain.{with_last}
use Rattle.prem_lru.specs.Entries.{ReplacementRule}
use Rattle.prem_gate.specs.declared.request.Request.{Request}
use Rattle.prem_cycle.specs.declared.state.Mode.{Mode}
use Rattle.prem_cycle.specs.declared.state.Mode.TheVariants.{Point, Switching, Running, Idle}
use Rattle.prem_cycle.specs.State.{Setup, Task, Work, MachineState, start_of}
use Rattle.prem_cycle.specs.Issue.{LineTouch, one_if}
use Rattle.prem_cycle.specs.Cycle.{arrivals_at, bus_at, cycle_of, is_over, step_of}
use Rattle.prem_cycle.specs.Run.{CycleStep, coming_step, cycles_of, memory_of, step_with, steps_of}
use Rattle.prem_cycle.proofs.RunLaws.{cycles_of-add, cycles_of-over, step_of-goes, step_of-stays}
use Rattle.prem_cycle.specs.Runs.Dull.Dull.{AreDull, OnlyCounts, left_in, with_switch}
use Rattle.prem_profile.specs.declared.cost.Cost.{Cost}
use Rattle.prem_profile.specs.declared.home.Home.{Home}
use Rattle.prem_profile.specs.declared.home.Home.TheVariants.{Rest, Switch, At}
use Rattle.prem_profile.specs.declared.tracing.StateBefore.{StateBefore}
use Rattle.prem_profile.specs.Spent.{backs_in, cost_with, cycle_cost, home_after, home_of, home_with, misses_in, no_cost, plus, spent, spent_in_all, waiting_home, where_so}
use Rattle.prem_profile.specs.Totals.{TotalsAreReported}
use Rattle.prem_profile.specs.Issuer.{coming_pc, issuer_in, pc_at}
use Rattle.prem_profile.specs.Turn.{AreSeen, IsTurn, has_executed, is_point, seen_cost, seen_home, seen_of}
use Rattle.prem_profile.proofs.Executes.{IsNextIf, IsTold, both_counted, hits_in, step_told, touches_of}

-- ---- costs

pub same_cost : (a b : Cost) → a.instructions ≡ b.instructions → a.cycles ≡ b.cycles → a.misses ≡ b.misses → a.backs ≡ b.backs → a ≡ b
same_cost a b instructions cycles misses backs = λ i. record { instructions = instructions i; cycles = cycles i; misses = misses i; backs = backs i }

pub plus_none : (a : Cost) → plus a no_cost ≡ a
plus_none a = same_cost (plus a no_cost) a (omega arith) (omega arith) (omega arith) (omega arith)

pub none_plus : (a : Cost) → plus no_cost a ≡ a
none_plus a = same_cost (plus no_cost a) a (omega arith) (omega arith) (omega arith) (omega arith)

pub plus_assoc : (a b c : Cost) → plus (plus a b) c ≡ plus a (plus b c)
plus_assoc a b c = same_cost (plus (plus a b) c) (plus a (plus b c)) (omega arith) (omega arith) (omega arith) (omega arith)

pub where_none : (b : Bool) → where_so b no_cost ≡ no_cost
where_none true = refl
where_none false = refl

pub where_plus : (b : Bool) (a c : Cost) → plus (where_so b a) (where_so b c) ≡ where_so b (plus a c)
where_plus true a c = refl
where_plus false a c = none_plus no_cost

-- ---- stretches one behind another

pub home_after-add : (rule : ReplacementRule) (p : Setup) (requests : List Request) (before : Home) (m n : ℕ) (s : MachineState) →
    home_after rule p requests before (m + n) s ≡ home_after rule p requests (home_after rule p requests before m s) n (cycles_of rule p requests m s)
unfolding home_after
home_after-add rule p requests before m zero s =
    let e : m + 0 ≡ m = omega arith in
    ap (λ k. home_after rule p requests before k s) e
home_after-add rule p requests before m (suc n) s =
    let e : m + suc n ≡ suc (m + n) = omega arith in
    let t = cycles_of rule p requests m s in
    ap (λ k. home_after rule p requests before k s) e
    ∙ ap (λ u. home_of rule p requests u (home_after rule p requests before (m + n) s)) (cycles_of-add rule p requests m n s)
    ∙ ap (home_of rule p requests (cycles_of rule p requests n t)) (home_after-add rule p requests before m n s)

pub spent-add : (is_so : Home → Bool) (rule : ReplacementRule) (p : Setup) (requests : List Request) (before : Home) (m n : ℕ) (s : MachineState) →
    spent is_so rule p requests before (m + n) s
    ≡ plus (spent is_so rule p requests before m s) (spent is_so rule p requests (home_after rule p requests before m s) n (cycles_of rule p requests m s))
unfolding spent
spent-add is_so rule p requests before m zero s =
    let e : m + 0 ≡ m = omega arith in
    ap (λ k. spent is_so rule p requests before k s) e ∙ sym (plus_none (spent is_so rule p requests before m s))
spent-add is_so rule p requests before m (suc n) s =
    let e : m + suc n ≡ suc (m + n) = omega arith in
    let f : suc (m + n) ≡ m + suc n = omega arith in
    let t = cycles_of rule p requests m s in
    let h = home_after rule p requests before m s in
    ap (λ k. spent is_so rule p requests before k s) e
    ∙ ap (λ x. plus x (where_so (is_so (home_after rule p requests before (suc (m + n)) s))
    (cycle_cost rule p requests (cycles_of rule p requests (m + n) s)))) (spent-add is_so rule p requests before m n s)
    ∙ ap (λ x. plus (plus (spent is_so rule p requests before m s) (spent is_so rule p requests h n t)) (where_so (is_so x) (cycle_cost rule p requests (cycles_of rule p requests (m + n) s))))
    (ap (λ k. home_after rule p requests before k s) f ∙ home_after-add rule p requests before m (suc n) s)
    ∙ ap (λ u. plus (plus (spent is_so rule p requests before m s) (spent is_so rule p requests h n t)) (where_so (is_so (home_after rule p requests h (suc n) t)) (cycle_cost rule p requests u)))
    (cycles_of-add rule p requests m n s)
    ∙ plus_assoc (spent is_so rule p requests before m s) (spent is_so rule p requests h n t)
    (where_so (is_so (home_after rule p requests h (suc n) t)) (cycle_cost rule p requests (cycles_of rule p requests n t)))

-- a turn behind others
pub record Booked (is_so : Home → Bool) (rule : ReplacementRule) (p : Setup) (requests : List Request) (before : Home) (m n : ℕ) (s : MachineState) (home : Home) (cost : Cost) : Type 0 where
  pub home_is : home_after rule p requests before (m + n) s ≡ home
  pub spent_is : spent is_so rule p requests before (m + n) s ≡ plus (spent is_so rule p requests before m s) (where_so (is_so home) cost)

pub booked : (is_so : Home → Bool) (rule : ReplacementRule) (p : Setup) (requests : List Request) (before : Home) (m n : ℕ) (s : MachineState) (home : Home) (cost : Cost) →
    IsTurn rule p requests (home_after rule p requests before m s) n (cycles_of rule p requests m s) home cost → Booked is_so rule p requests before m n s home cost
booked is_so rule p requests before m n s home cost t = record {
  home_is = home_after-add rule p requests before m n s ∙ t.home_is;
  spent_is = spent-add is_so rule p requests before m n s ∙ ap (plus (spent is_so rule p requests before m s)) (t.spent_is is_so);
}

-- ---- where a run is over

pub over_none : (rule : ReplacementRule) (p : Setup) (requests : List Request) (s : MachineState) → is_over s ≡ true → coming_step rule p requests s ≡ None
over_none rule p requests s h = ap (λ b. cond b None (step_with rule p (bus_at (arrivals_at requests s).gates s) s)) h

pub over_cost : (rule : ReplacementRule) (p : Setup) (requests : List Request) (s : MachineState) → is_over s ≡ true → cycle_cost rule p requests s ≡ no_cost
over_cost rule p requests s h =
    let same : (step_of rule p requests s).now ≡ s.now = ap (λ (x : MachineState). x.now) (step_of-stays rule p requests s h) in
    let none : (step_of rule p requests s).now - s.now ≡ 0 = omega (arith, same) in
    ap (λ o. cost_with o ((step_of rule p requests s).now - s.now)) (over_none rule p requests s h) ∙ ap (cost_with None) none

pub over_spent : (is_so : Home → Bool) (rule : ReplacementRule) (p : Setup) (requests : List Request) (before : Home) (n : ℕ) (s : MachineState) → is_over s ≡ true →
    spent is_so rule p requests before n s ≡ no_cost
unfolding spent
over_spent is_so rule p requests before zero s h = refl
over_spent is_so rule p requests before (suc n) s h =
    let b = is_so (home_after rule p requests before (suc n) s) in
    let same : cycle_cost rule p requests (cycles_of rule p requests n s) ≡ no_cost = ap (cycle_cost rule p requests) (cycles_of-over rule p requests n s h) ∙ over_cost rule p requests s h in
    ap₂ plus (over_spent is_so rule p requests before n s h) (ap (where_so b) same ∙ where_none b) ∙ none_plus no_cost

-- ---- one cycle

less_true : (m n : ℕ) → m < n → nat_lt m n ≡ true
less_true m n lt = grind (arith, nat_tests)

less_false : (m n : ℕ) → n ≡ m → nat_lt m n ≡ false
less_false m n e = grind (arith, nat_tests)

or_left : (a b : Bool) → a ≡ true → (a || b) ≡ true
or_left true b h = refl
or_left false b h = absurd (cc)

or_right : (a b : Bool) → b ≡ true → (a || b) ≡ true
or_right true b h = refl
or_right false b h = h

or_none : (a b : Bool) → a ≡ false → b ≡ false → (a || b) ≡ false
or_none true b h k = absurd (cc)
or_none false b h k = k

-- one of two counts has grown
grown : (m m' n n' x y : ℕ) → m' ≡ m + x → n' ≡ n + y → 1 ≤ x + y → (nat_lt m m' || nat_lt n n') ≡ true
grown m m' n n' zero y e f h = or_right (nat_lt m m') (nat_lt n n') (less_true n n' (omega (arith, f, h)))
grown m m' n n' (suc x) y e f h = or_left (nat_lt m m') (nat_lt n n') (less_true m m' (omega (arith, e)))

none_grown : (m m' n n' : ℕ) → m' ≡ m → n' ≡ n → (nat_lt m m' || nat_lt n n') ≡ false
none_grown m m' n n' e f = or_none (nat_lt m m') (nat_lt n n') (less_false m m' e) (less_false n n' f)

-- behind an instruction that was executed, if one was
record IsSeenBy (o : Option CycleStep) (before : Home) (s t : MachineState) : Type 0 where
  home_is : home_with o (waiting_home s.now s.sched s.core.mode before) ≡ seen_home (seen_of before s) t
  cost_is : cost_with o (t.now - s.now) ≡ seen_cost (seen_of before s) t

seen_by : (o : Option CycleStep) (before : Home) (s t : MachineState) → IsTold s t o → IsSeenBy o before s t
seen_by None before s t h =
    let w = waiting_home s.now s.sched s.core.mode before in
    let hits = h.counted.hits in
    let misses = h.counted.misses in
    let backs = h.counted.backs in
    let none : has_executed (seen_of before s) t ≡ false =
    none_grown s.log.counts.hits t.log.counts.hits s.log.counts.misses t.log.counts.misses (omega (arith, hits)) (omega (arith, misses)) in
    record {
      home_is = sym (ap (λ b. cond b (At (coming_pc s)) w) none);
      cost_is = same_cost (cost_with None (t.now - s.now)) (seen_cost (seen_of before s) t) (sym (ap (λ b. cond b 1 0) none)) refl (omega (arith, misses)) (omega (arith, backs));
    }
seen_by (Some st) before s t h =
    let w = waiting_home s.now s.sched s.core.mode before in
    let hits = h.counted.hits in
    let misses = h.counted.misses in
    let backs = h.counted.backs in
    let some = h.next.touches in
    let all = both_counted st.touches in
    let one : has_executed (seen_of before s) t ≡ true =
    grown s.log.counts.hits t.log.counts.hits s.log.counts.misses t.log.counts.misses (hits_in st.touches) (misses_in st.touches) hits misses (omega (arith, some, all)) in
    let pc : st.before.pc ≡ coming_pc s = ap (λ (x : Task). x.pc) h.next.before ∙ sym (ap (pc_at s) h.next.task) in
    record {
      home_is = ap At pc ∙ sym (ap (λ b. cond b (At (coming_pc s)) w) one);
      cost_is = same_cost (cost_with (Some st) (t.now - s.now)) (seen_cost (seen_of before s) t) (sym (ap (λ b. cond b 1 0) one)) refl (omega (arith, misses)) (omega (arith, backs));
    }

first_home : (rule : ReplacementRule) (p : Setup) (requests : List Request) (s : MachineState) (before home : Home) → home_of rule p requests s before ≡ home → (m : ℕ) → m < 1 →
    home_after rule p requests before (suc m) s ≡ home
unfolding home_after cycles_of
first_home rule p requests s before home is zero lt = is
first_home rule p requests s before home is (suc m) lt = absurd (omega (arith, lt))

pub one_seen : (rule : ReplacementRule) (p : Setup) (requests : List Request) (s : MachineState) → AreSeen rule p requests 1 s
unfolding home_after spent cycles_of
one_seen rule p requests s before =
    let h = seen_by (coming_step rule p requests s) before s (step_of rule p requests s) (step_told rule p requests s) in
    record {
      homes = first_home rule p requests s before (seen_home (seen_of before s) (step_of rule p requests s)) h.home_is;
      home_is = h.home_is;
      spent_is = λ is_so. none_plus (where_so (is_so (home_of rule p requests s before)) (cycle_cost rule p requests s)) ∙ ap₂ (λ x c. where_so (is_so x) c) h.home_is h.cost_is;
    }

-- ---- dull cycles, which don't begin at a scheduling point

-- the home of cycles that execute nothing
abbrev standing : Mode → Home → Home
standing Point before = before
standing (Switching k left) before = Switch k
standing (Running k) before = before
standing (Idle until) before = Rest

standing_waits : (now : ℕ) (sched : List TaskJobs) (m : Mode) (before : Home) → is_point m ≡ false → waiting_home now sched m before ≡ standing m before
standing_waits now sched Point before h = absurd (cc)
standing_waits now sched (Switching k left) before h = refl
standing_waits now sched (Running k) before h = refl
standing_waits now sched (Idle until) before h = refl

standing_again : (m : Mode) (before : Home) → standing m (standing m before) ≡ standing m before
standing_again Point before = refl
standing_again (Switching k left) before = refl
standing_again (Running k) before = refl
standing_again (Idle until) before = refl

switch_stands : (n : ℕ) (m : Mode) (before : Home) → standing (with_switch n m) before ≡ standing m before
switch_stands n Point before = refl
switch_stands n (Switching k left) before = refl
switch_stands n (Running k) before = refl
switch_stands n (Idle until) before = refl

switch_point : (n : ℕ) (m : Mode) → is_point (with_switch n m) ≡ is_point m
switch_point n Point = refl
switch_point n (Switching k left) = refl
switch_point n (Running k) = refl
switch_point n (Idle until) = refl

-- behind them
record Stays (s t : MachineState) : Type 0 where
  hits : t.log.counts.hits ≡ s.log.counts.hits
  misses : t.log.counts.misses ≡ s.log.counts.misses
  backs : t.log.counts.writebacks ≡ s.log.counts.writebacks
  from : s.now ≤ t.now
  stands : (before : Home) → standing t.core.mode before ≡ standing s.core.mode before
  point : is_point t.core.mode ≡ is_point s.core.mode

stays_same : (s : MachineState) → Stays s s
stays_same s = record { hits = refl; misses = refl; backs = refl; from = omega arith; stands = λ before. refl; point = refl }

stays_then : (s t u : MachineState) → Stays s t → Stays t u → Stays s u
stays_then s t u h k =
    let first = h.from in
    let second = k.from in
    record {
      hits = k.hits ∙ h.hits;
      misses = k.misses ∙ h.misses;
      backs = k.backs ∙ h.backs;
      from = omega (arith, first, second);
      stands = λ before. k.stands before ∙ h.stands before;
      point = k.point ∙ h.point;
    }

counts_stay : (s t : MachineState) → s.now ≤ t.now → OnlyCounts s t → Stays s t
counts_stay s t from d = record {
  hits = ap (λ (x : MachineState). x.log.counts.hits) d.same;
  misses = ap (λ (x : MachineState). x.log.counts.misses) d.same;
  backs = ap (λ (x : MachineState). x.log.counts.writebacks) d.same;
  from = from;
  stands = λ before. ap (λ (x : MachineState). standing x.core.mode before) d.same ∙ switch_stands (left_in t).switch s.core.mode before;
  point = ap (λ (x : MachineState). is_point x.core.mode) d.same ∙ switch_point (left_in t).switch s.core.mode;
}

step_stays : (rule : ReplacementRule) (p : Setup) (requests : List Request) (s : MachineState) (b : Bool) → is_over s ≡ b → OnlyCounts s (cycle_of rule p requests s) →
    Stays s (step_of rule p requests s)
step_stays rule p requests s true over d = subst (Stays s) (sym (step_of-stays rule p requests s over)) (stays_same s)
step_stays rule p requests s false going d =
    let is = step_of-goes rule p requests s going in
    let from : s.now ≤ (cycle_of rule p requests s).now = subst (λ (x : MachineState). s.now ≤ x.now) is (step_told rule p requests s).from in
    subst (Stays s) (sym is) (counts_stay s (cycle_of rule p requests s) from d)

pub none_by : (issuer : Option ℕ) (w : Work) (o : Option CycleStep) → IsNextIf issuer w o → length (touches_of o) ≡ 0 → o ≡ None
none_by issuer w None h e = refl
none_by issuer w (Some st) h e = let some = h.touches in absurd (omega (arith, some, e))

stays_none : (rule : ReplacementRule) (p : Setup) (requests : List Request) (s : MachineState) → Stays s (step_of rule p requests s) → coming_step rule p requests s ≡ None
stays_none rule p requests s h =
    let o = coming_step rule p requests s in
    let told = step_told rule p requests s in
    let hits = told.counted.hits in
    let misses = told.counted.misses in
    let same_hits = h.hits in
    let same_misses = h.misses in
    let all = both_counted (touches_of o) in
    none_by (issuer_in s.now s.sched s.core.mode) s.work o told.next (omega (arith, hits, misses, same_hits, same_misses, all))

dull_step : (rule : ReplacementRule) (p : Setup) (requests : List Request) (n m : ℕ) (s : MachineState) → m < n → AreDull rule p requests n s →
    Stays (cycles_of rule p requests m s) (step_of rule p requests (cycles_of rule p requests m s))
dull_step rule p requests n m s lt dull = let u = cycles_of rule p requests m s in step_stays rule p requests u (is_over u) refl (dull m lt)

dull_stays : (rule : ReplacementRule) (p : Setup) (requests : List Request) (n m : ℕ) (s : MachineState) → m ≤ n → AreDull rule p requests n s → Stays s (cycles_of rule p requests m s)
unfolding cycles_of
dull_stays rule p requests n zero s le dull = stays_same s
dull_stays rule p requests n (suc m) s le dull =
    let u = cycles_of rule p requests m s in
    stays_then s u (step_of rule p requests u) (dull_stays rule p requests n m s (omega (arith, le)) dull) (dull_step rule p requests n m s (omega (arith, le)) dull)

-- of the last of m + 1 of them
dull_home : (rule : ReplacementRule) (p : Setup) (requests : List Request) (before : Home) (n m : ℕ) (s : MachineState) → m < n → is_point s.core.mode ≡ false → AreDull rule p requests n s →
    home_after rule p requests before (suc m) s ≡ standing s.core.mode before
unfolding home_after cycles_of
dull_home rule p requests before n zero s lt point dull =
    let none = stays_none rule p requests s (dull_step rule p requests n 0 s lt dull) in
    ap (λ o. home_with o (waiting_home s.now s.sched s.core.mode before)) none ∙ standing_waits s.now s.sched s.core.mode before point
dull_home rule p requests before n (suc m) s lt point dull =
    let u = cycles_of rule p requests (suc m) s in
    let k = standing s.core.mode before in
    let stays = dull_stays rule p requests n (suc m) s (omega (arith, lt)) dull in
    let none = stays_none rule p requests u (dull_step rule p requests n (suc m) s lt dull) in
    ap (home_of rule p requests u) (dull_home rule p requests before n m s (omega (arith, lt)) point dull)
    ∙ ap (λ o. home_with o (waiting_home u.now u.sched u.core.mode k)) none
    ∙ standing_waits u.now u.sched u.core.mode k (stays.point ∙ point) ∙ stays.stands k ∙ standing_again s.core.mode before

dull_spent : (is_so : Home → Bool) (rule : ReplacementRule) (p : Setup) (requests : List Request) (before : Home) (n m : ℕ) (s : MachineState) → m ≤ n → is_point s.core.mode ≡ false →
    AreDull rule p requests n s →
    spent is_so rule p requests before m s ≡ where_so (is_so (standing s.core.mode before)) (cost_with None ((cycles_of rule p requests m s).now - s.now))
unfolding spent cycles_of
dull_spent is_so rule p requests before n zero s le point dull =
    let none : s.now - s.now ≡ 0 = omega arith in
    sym (ap (λ k. where_so (is_so (standing s.core.mode before)) (cost_with None k)) none ∙ where_none (is_so (standing s.core.mode before)))
dull_spent is_so rule p requests before n (suc m) s le point dull =
    let u = cycles_of rule p requests m s in
    let v = step_of rule p requests u in
    let b = is_so (standing s.core.mode before) in
    let lt : m < n = omega (arith, le) in
    let stays = (dull_stays rule p requests n m s (omega (arith, le)) dull).from in
    let last = dull_step rule p requests n m s lt dull in
    let later = last.from in
    let none = stays_none rule p requests u last in
    ap₂ plus (dull_spent is_so rule p requests before n m s (omega (arith, le)) point dull)
    (ap₂ (λ h o. where_so (is_so h) (cost_with o (v.now - u.now))) (dull_home rule p requests before n m s lt point dull) none)
    ∙ where_plus b (cost_with None (u.now - s.now)) (cost_with None (v.now - u.now))
    ∙ ap (where_so b) (same_cost (plus (cost_with None (u.now - s.now)) (cost_with None (v.now - u.now))) (cost_with None (v.now - s.now)) refl (omega (arith, stays, later)) refl refl)

dull_seen : (rule : ReplacementRule) (p : Setup) (requests : List Request) (n : ℕ) (s : MachineState) → is_point s.core.mode ≡ false → AreDull rule p requests (suc n) s →
    AreSeen rule p requests (suc n) s
dull_seen rule p requests n s point dull before =
    let t = cycles_of rule p requests (suc n) s in
    let w = waiting_home s.now s.sched s.core.mode before in
    let stays = dull_stays rule p requests (suc n) (suc n) s (omega arith) dull in
    let hits = stays.hits in
    let misses = stays.misses in
    let backs = stays.backs in
    let none : has_executed (seen_of before s) t ≡ false =
    none_grown s.log.counts.hits t.log.counts.hits s.log.counts.misses t.log.counts.misses hits misses in
    let home : standing s.core.mode before ≡ seen_home (seen_of before s) t =
    sym (standing_waits s.now s.sched s.core.mode before point) ∙ sym (ap (λ b. cond b (At (coming_pc s)) w) none) in
    let cost : cost_with None (t.now - s.now) ≡ seen_cost (seen_of before s) t =
    same_cost (cost_with None (t.now - s.now)) (seen_cost (seen_of before s) t) (sym (ap (λ b. cond b 1 0) none)) refl (omega (arith, misses)) (omega (arith, backs)) in
    record {
      homes = λ m lt. dull_home rule p requests before (suc n) m s lt point dull ∙ home;
      home_is = dull_home rule p requests before (suc n) n s (omega arith) point dull ∙ home;
      spent_is = λ is_so. dull_spent is_so rule p requests before (suc n) (suc n) s (omega arith) point dull ∙ ap₂ (λ h c. where_so (is_so h) c) home cost;
    }

-- ---- a turn: one cycle, or dull ones

pub next_seen : (rule : ReplacementRule) (p : Setup) (requests : List Request) (s : MachineState) (at to : ℕ) → to ≡ at + 1 → AreSeen rule p requests (to - at) s
next_seen rule p requests s at to is =
    let one : 1 ≡ to - at = omega (arith, is) in
    subst (λ n. AreSeen rule p requests n s) one (one_seen rule p requests s)

turn_by : (rule : ReplacementRule) (p : Setup) (requests : List Request) (s : MachineState) (at event to : ℕ) (b : Bool) → nat_le event (at + 1) ≡ b → s.now ≡ at →
    is_point s.core.mode ≡ false → AreDull rule p requests (event - s.now) s → to ≡ max event (at + 1) → AreSeen rule p requests (to - at) s
turn_by rule p requests s at event to true le now point dull is =
    let short : event ≤ at + 1 = grind (arith, nat_tests) in
    next_seen rule p requests s at to (omega (arith, short, is))
turn_by rule p requests s at event to false le now point dull is =
    let long : at + 1 < event = grind (arith, nat_tests) in
    let same : event - s.now ≡ suc (event - s.now - 1) = omega (arith, now, long) in
    let whole : suc (event - s.now - 1) ≡ to - at = omega (arith, now, long, is) in
    subst (λ n. AreSeen rule p requests n s) whole (dull_seen rule p requests (event - s.now - 1) s point (subst (λ n. AreDull rule p requests n s) same dull))

pub turn_is : (rule : ReplacementRule) (p : Setup) (requests : List Request) (s : MachineState) (at event to : ℕ) → s.now ≡ at → is_point s.core.mode ≡ false →
    AreDull rule p requests (event - s.now) s → to ≡ max event (at + 1) → AreSeen rule p requests (to - at) s
turn_is rule p requests s at event to now point dull is = turn_by rule p requests s at event to (nat_le event (at + 1)) refl now point dull is

-- ---- bounds

-- no more than so many cycles, and no more else than these allow
pub record IsSmall (cycles : ℕ) (c : Cost) : Type 0 where
  pub instructions : c.instructions ≤ c.cycles
  pub misses : c.misses ≤ 2 * c.cycles
  pub backs : c.backs ≤ 2 * c.cycles
  pub within : c.cycles ≤ cycles

backs_few : (touches : List LineTouch) → backs_in touches ≤ length touches
backs_few [] = omega arith
backs_few (t ∷ touches) = let one = one_most t.back in let rest = backs_few touches in omega (arith, one, rest)
  where
    one_most : (b : Bool) → one_if b ≤ 1
    one_most true = omega arith
    one_most false = omega arith

cost_small : (o : Option CycleStep) (s t : MachineState) → IsTold s t o → IsSmall (t.now - s.now) (cost_with o (t.now - s.now))
cost_small None s t h = record { instructions = omega arith; misses = omega arith; backs = omega arith; within = omega arith }
cost_small (Some st) s t h =
    let went = h.went refl in
    let few = h.next.few in
    let all = both_counted st.touches in
    let back = backs_few st.touches in
    record { instructions = omega (arith, went); misses = omega (arith, went, few, all); backs = omega (arith, went, few, back); within = omega arith }

pub where_small : (b : Bool) (cycles : ℕ) (c : Cost) → IsSmall cycles c → IsSmall cycles (where_so b c)
where_small true cycles c h = h
where_small false cycles c h = record { instructions = omega arith; misses = omega arith; backs = omega arith; within = omega arith }

pub plus_small : (m n : ℕ) (a b : Cost) → IsSmall m a → IsSmall n b → IsSmall (m + n) (plus a b)
plus_small m n a b h k =
    let i = h.instructions in
    let i' = k.instructions in
    let x = h.misses in
    let x' = k.misses in
    let y = h.backs in
    let y' = k.backs in
    let z = h.within in
    let z' = k.within in
    record { instructions = omega (arith, i, i'); misses = omega (arith, x, x'); backs = omega (arith, y, y'); within = omega (arith, z, z') }

pub cycle_small : (rule : ReplacementRule) (p : Setup) (requests : List Request) (s : MachineState) → IsSmall ((step_of rule p requests s).now - s.now) (cycle_cost rule p requests s)
cycle_small rule p requests s = cost_small (coming_step rule p requests s) s (step_of rule p requests s) (step_told rule p requests s)

pub step_later : (rule : ReplacementRule) (p : Setup) (requests : List Request) (s : MachineState) → s.now ≤ (step_of rule p requests s).now
step_later rule p requests s = (step_told rule p requests s).from

pub cycles_later : (rule : ReplacementRule) (p : Setup) (requests : List Request) (n : ℕ) (s : MachineState) → s.now ≤ (cycles_of rule p requests n s).now
unfolding cycles_of
cycles_later rule p requests zero s = omega arith
cycles_later rule p requests (suc n) s =
    let u = cycles_of rule p requests n s in
    let before = cycles_later rule p requests n s in
    let last = (step_told rule p requests u).from in
    omega (arith, before, last)

pub cycles_within : (rule : ReplacementRule) (p : Setup) (requests : List Request) (n : ℕ) (s : MachineState) → (cycles_of rule p requests n s).now ≤ s.now + n
unfolding cycles_of
cycles_within rule p requests zero s = omega arith
cycles_within rule p requests (suc n) s =
    let u = cycles_of rule p requests n s in
    let before = cycles_within rule p requests n s in
    let last = (step_told rule p requests u).within in
    omega (arith, before, last)

pub spent_small : (is_so : Home → Bool) (rule : ReplacementRule) (p : Setup) (requests : List Request) (before : Home) (n : ℕ) (s : MachineState) →
    IsSmall ((cycles_of rule p requests n s).now - s.now) (spent is_so rule p requests before n s)
unfolding spent cycles_of
spent_small is_so rule p requests before zero s = record { instructions = omega arith; misses = omega arith; backs = omega arith; within = omega arith }
spent_small is_so rule p requests before (suc n) s =
    let u = cycles_of rule p requests n s in
    let v = step_of rule p requests u in
    let told = step_told rule p requests u in
    let from = cycles_later rule p requests n s in
    let last = told.from in
    let sum : (u.now - s.now) + (v.now - u.now) ≡ v.now - s.now = omega (arith, from, last) in
    let b = is_so (home_after rule p requests before (suc n) s) in
    let first = spent is_so rule p requests before n s in
    let second = cycle_cost rule p requests u in
    subst (λ k. IsSmall k (plus first (where_so b second))) sum
    (plus_small (u.now - s.now) (v.now - u.now) first (where_so b second) (spent_small is_so rule p requests before n s)
    (where_small b (v.now - u.now) second (cost_small (coming_step rule p requests u) u v told)))

-- what no cycle takes back
pub record Grows (s t : MachineState) : Type 0 where
  pub now : s.now ≤ t.now
  pub misses : s.log.counts.misses ≤ t.log.counts.misses
  pub backs : s.log.counts.writebacks ≤ t.log.counts.writebacks

pub grows : (rule : ReplacementRule) (p : Setup) (requests : List Request) (n : ℕ) (s : MachineState) → Grows s (cycles_of rule p requests n s)
unfolding cycles_of
grows rule p requests zero s = record { now = omega arith; misses = omega arith; backs = omega arith }
grows rule p requests (suc n) s =
    let u = cycles_of rule p requests n s in
    let h = grows rule p requests n s in
    let k = step_told rule p requests u in
    let now = h.now in
    let misses = h.misses in
    let backs = h.backs in
    let from = k.from in
    let more_misses = k.counted.misses in
    let more_backs = k.counted.backs in
    record { now = omega (arith, now, from); misses = omega (arith, misses, more_misses); backs = omega (arith, backs, more_backs) }

-- what is seen before cycles is no more than behind them
pub record IsBefore (b : StateBefore) (t : MachineState) : Type 0 where
  pub now : b.now ≤ t.now
  pub misses : b.misses ≤ t.log.counts.misses
  pub backs : b.backs ≤ t.log.counts.writebacks

pub seen_before : (rule : ReplacementRule) (p : Setup) (requests : List Request) (n : ℕ) (b : StateBefore) (before : Home) (s t : MachineState) → b ≡ seen_of before s → t ≡ cycles_of rule p requests n s →
    IsBefore b t
seen_before rule p requests n b before s t is there =
    let h = grows rule p requests n s in
    subst (λ x. IsBefore x t) (sym is) (subst (IsBefore (seen_of before s)) (sym there) (record { now = h.now; misses = h.misses; backs = h.backs }))

-- ---- totals

last_long : {A : Type 0} (o : Option A) (xs : List A) → length (with_last o xs) ≡ length xs + (if is_some o then 1 else 0)
last_long None xs = omega arith
last_long (Some x) xs = length-append xs (x ∷ [])

record Sums (o : ℕ) (s t : MachineState) (c : Cost) : Type 0 where
  instructions : c.instructions ≡ o
  cycles : s.now + c.cycles ≡ t.now
  misses : s.log.counts.misses + c.misses ≡ t.log.counts.misses
  backs : s.log.counts.writebacks + c.backs ≡ t.log.counts.writebacks

cost_sums : (o : Option CycleStep) (s t : MachineState) → IsTold s t o → Sums (if is_some o then 1 else 0) s t (cost_with o (t.now - s.now))
cost_sums None s t h =
    let from = h.from in
    let misses = h.counted.misses in
    let backs = h.counted.backs in
    record { instructions = refl; cycles = omega (arith, from); misses = omega (arith, misses); backs = omega (arith, backs) }
cost_sums (Some st) s t h =
    let from = h.from in
    let misses = h.counted.misses in
    let backs = h.counted.backs in
    record { instructions = refl; cycles = omega (arith, from); misses = omega (arith, misses); backs = omega (arith, backs) }

run_sums : (rule : ReplacementRule) (p : Setup) (requests : List Request) (before : Home) (n : ℕ) (s : MachineState) →
    Sums (length (steps_of rule p requests n s)) s (cycles_of rule p requests n s) (spent_in_all rule p requests before n s)
unfolding spent cycles_of steps_of
run_sums rule p requests before zero s = record { instructions = refl; cycles = omega arith; misses = omega arith; backs = omega arith }
run_sums rule p requests before (suc n) s =
    let u = cycles_of rule p requests n s in
    let o = coming_step rule p requests u in
    let h = run_sums rule p requests before n s in
    let k = cost_sums o u (step_of rule p requests u) (step_told rule p requests u) in
    let i = h.instructions in
    let i' = k.instructions in
    let c = h.cycles in
    let c' = k.cycles in
    let m = h.misses in
    let m' = k.misses in
    let b = h.backs in
    let b' = k.backs in
    let long = last_long o (steps_of rule p requests n s) in
    record { instructions = omega (arith, i, i', long); cycles = omega (arith, c, c'); misses = omega (arith, m, m'); backs = omega (arith, b, b') }

from_none : (z m n : ℕ) → z ≡ 0 → z + m ≡ n → m ≡ n
from_none z m n none sum = omega (arith, none, sum)

pub totals_are_reported : TotalsAreReported
totals_are_reported rule p content inputs requests n =
    let s : MachineState = start_of p inputs (memory_of p content) in
    let t : MachineState = cycles_of rule p requests n s in
    let c : Cost = spent_in_all rule p requests Rest n s in
    let h = run_sums rule p requests Rest n s in
    record {
      instructions = h.instructions;
      cycles = from_none s.now c.cycles t.now refl h.cycles;
      misses = from_none s.log.counts.misses c.misses t.log.counts.misses refl h.misses;
      backs = from_none s.log.counts.writebacks c.backs t.log.counts.writebacks refl h.backs;
    }
