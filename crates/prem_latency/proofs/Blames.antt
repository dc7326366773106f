-- A run of the machine is a timeline of the bus: each closed cycle is one of a job of a task.
use Rattle.std.specs.Prelude.{◌&&◌, ◌||◌, not, is_some, take, drop}
use Rattle.std.proofs.Common.{◌≡◌, ℕ, zero, suc, ◌+◌, ◌-◌, ◌*◌, ◌/◌, ◌<◌, ◌≤◌, refl, ap, ◌∙◌, sym, subst, arith, eqb, leb, ltb, cond, true, false, Bool, Some, None, Option, List}
use Rattle.std.proofs.Common.{[], ◌∷◌, length, inl, inr, ⊎_elim}
use Rattle.std.proofs.lemmas.Bool.{cases_lt, and_parts, ltb-true, lt-ltb, le-leb, leb-false, eqb-true, eq-eqb}
use Rattle.std.proofs.lemmas.Nat.{mul-le}
use Rattle.std.proofs.Math.Nat.{div-mul-le_self, add-mul}
use Rattle.prem_sched.specs.declared.sched.TaskJobs.{TaskJobs}
use Rattle.prem_sched.specs.declared.sched.Choice.{Choice}
use Rattle.prem_sched.specs.declared.sched.Choice.TheVariants.{Run, Idle as Rest, Finished}
use Rattle.prem_sched.specs.Schedule.{choice, has_jobs_left, released, task_at, IsReady}
use Rattle.prem_lru.specs.Entries.{ReplacementRule}
use Rattle.prem_gate.specs.declared.request.Request.{Request}
use Rattle.prem_gate.specs.declared.bus.Window.{Window}
use Rattle.prem_gate.specs.declared.bus.Carried.{Carried}
use Rattle.prem_gate.specs.Gates.{fits}
use Rattle.prem_cycle.specs.declared.state.Mode.{Mode}
use Rattle.prem_cycle.specs.declared.state.Mode.TheVariants.{Point, Switching, Running, Idle}
use Rattle.prem_cycle.specs.State.{Setup, MachineState, record_of}
use Rattle.prem_cycle.specs.Cycle.{is_finish, is_finished_in, is_finished, is_full, is_over}
use Rattle.prem_cycle.proofs.Time.{run_of-now}
use Rattle.prem_latency.specs.Wait.{Asking, Closing, longest as longest_of, top}
use Rattle.prem_latency.specs.Timeline.{Level, Deed, Carries, Behind, Shut, Free, IsShut, asking_at, level_of}
use Rattle.prem_latency.specs.Bus.{coming_transfer}
use Rattle.prem_latency.specs.Served.{serves_of, ended_of, works_for, is_closed}
use Rattle.prem_resp.specs.Busy.Schedule.{is_task}
use Rattle.prem_resp.specs.Deadline.Timeline.{chosen_task, serves_in}
use Rattle.prem_latency.specs.Requests.{Serves}
use Rattle.prem_latency.proofs.Steps.{state, on_before}
use Rattle.prem_latency.proofs.Scheduled.{Holds, Idles, Waited, waited, InMode, some_period, ready_means, run_holds, run_ends, run_rests, first_rests, served_ready, EndsOne}

-- ---- the first that passes a test

abbrev pub find : (ℕ → Bool) → ℕ → Option ℕ
find test zero = None
find test (suc n) = cond (test n) (Some n) (find test n)

find_one : (test : ℕ → Bool) (n k : ℕ) → k < n → test k ≡ true → (j : ℕ) × (find test n ≡ Some j) × (j < n) × (test j ≡ true)
find_one test zero k lt e = absurd (omega (arith, lt))
find_one test (suc n) k lt e = by (test n) refl (λ l. find_one test n k l e) where
  by : (b : Bool) → test n ≡ b → (k < n → (j : ℕ) × (find test n ≡ Some j) × (j < n) × (test j ≡ true)) → (j : ℕ) × (cond (test n) (Some n) (find test n) ≡ Some j) × (j < suc n) × (test j ≡ true)
  by true t more = (n, ap (λ b. cond b (Some n) (find test n)) t, omega arith, t)
  by false t more =
      let less : k < n = ⊎_elim (λ (y : k < n). y) (λ (y : n ≤ k). let same : k ≡ n = omega (arith, y, lt) in absurd (let x : true ≡ false = sym e ∙ ap test same ∙ t in cc)) (cases_lt k n) in
      let f : (j : ℕ) × (find test n ≡ Some j) × (j < n) × (test j ≡ true) = more less in
      (f.0, ap (λ b. cond b (Some n) (find test n)) t ∙ f.1, omega (arith, f.2), f.3)

-- ---- the costs of a level

one_of : (xs : List Asking) (k : ℕ) → k < length xs → (asking_at xs k).cost ≤ longest_of xs
one_of [] k lt = absurd (omega (arith, lt))
one_of (x ∷ xs) zero lt = omega arith
one_of (x ∷ xs) (suc k) lt = omega (arith, one_of xs k (omega (arith, lt)))

pub within_top : (xs : List Asking) (n k : ℕ) → k < n → k < length xs → (asking_at xs k).cost ≤ longest_of (take n xs)
within_top [] n k less lt = absurd (omega (arith, lt))
within_top (x ∷ xs) zero k less lt = absurd (omega (arith, less))
within_top (x ∷ xs) (suc n) zero less lt = omega arith
within_top (x ∷ xs) (suc n) (suc k) less lt = omega (arith, within_top xs n k (omega (arith, less)) (omega (arith, lt)))

pub within_rest : (xs : List Asking) (n k : ℕ) → n ≤ k → k < length xs → (asking_at xs k).cost ≤ longest_of (drop n xs)
within_rest [] n k le lt = absurd (omega (arith, lt))
within_rest (x ∷ xs) zero k le lt = one_of (x ∷ xs) k lt
within_rest (x ∷ xs) (suc n) zero le lt = absurd (omega (arith, le))
within_rest (x ∷ xs) (suc n) (suc k) le lt = within_rest xs n k (omega (arith, le)) (omega (arith, lt))

-- ---- a run

module _ (rule : ReplacementRule) (p : Setup) (content : List ℕ) (inputs : List (List ℕ)) (requests : List Request) (devices : List Asking)
    (tasks : List Closing) (d : ℕ) (sv : Serves rule p content inputs requests devices tasks d) where
  abbrev run : ℕ → MachineState
  run n = state rule p content inputs requests n

  abbrev pub longest : ℕ
  longest = top devices d

  abbrev pub level : Level
  level = level_of devices tasks d

  pub some_longest : 1 ≤ longest
  some_longest =
      let w : (asking_at devices d).cost ≤ longest_of (take (d + 1) devices) = within_top devices (d + 1) d (omega arith) (omega (arith, sv.there, sv.askings.count)) in
      omega (arith, sv.asks, w)

  -- ---- who keeps it closed

  abbrev waits_for : ℕ → ℕ → ℕ → Bool
  waits_for until n k = has_jobs_left (task_at (run n).sched k) && (eqb ((task_at (run n).sched k).ended * (task_at (run n).sched k).period) until)

  abbrev just_ended : ℕ → ℕ → Bool
  just_ended zero k = false
  just_ended (suc n) k = ltb (ended_of k (run n)) (ended_of k (run (suc n)))

  abbrev shut_next : ℕ → Option ℕ → Deed
  shut_next n None = Free
  shut_next n (Some k) = Shut k (ended_of k (run n))

  abbrev shut_last : ℕ → Option ℕ → Deed
  shut_last n None = Free
  shut_last n (Some k) = Shut k (ended_of k (run n) - 1)

  abbrev blame_idle : ℕ → Mode → Deed
  blame_idle n Point = shut_last n (find (just_ended n) (length p.tasks))
  blame_idle n (Switching k left) = Free
  blame_idle n (Running k) = Free
  blame_idle n (Idle until) = shut_next n (find (waits_for until n) (length p.tasks))

  abbrev blame_by : ℕ → Option ℕ → Deed
  blame_by n (Some k) = Shut k (ended_of k (run n))
  blame_by n None = blame_idle n (run n).core.mode

  abbrev pub blame : ℕ → Deed
  blame n = blame_by n (serves_of (run n))

  -- so long before a release, in the first cycle behind an end, or in a cycle in which the core works for the job
  pub data Blame (k m n : ℕ) : Type 0 where
    works : works_for k m (run n) ≡ true → Blame k m n
    waits_near : n < m * level.period k → m * level.period k < n + longest → Blame k m n
    has_ended : (last : ℕ) → n ≡ suc last → ended_of k (run last) ≤ m → m < ended_of k (run n) → Blame k m n

  pub record Blamed (k m n : ℕ) : Type 0 where
    pub shut : IsShut level k m n
    pub by_case : Blame k m n

  abbrev pub IsBlamed : ℕ → Deed → Type 0
  IsBlamed n (Carries i) = ⊥
  IsBlamed n Behind = ⊥
  IsBlamed n (Shut k m) = Blamed k m n
  IsBlamed n Free = ⊥

  module _ (n : ℕ) (on : is_over (run n) ≡ false) where
    now : (run n).now ≡ n
    now = run_of-now rule p content inputs requests n on

    holds : Holds p sv.periods (run n)
    holds = run_holds p sv.periods rule content inputs requests n on

    same_period : (k : ℕ) → k < length p.tasks → (task_at (run n).sched k).period ≡ level.period k
    same_period k lt = holds.tasks.period k lt ∙ sym (sv.closings.each k lt).period

    some : (k : ℕ) → k < length p.tasks → 1 ≤ (task_at (run n).sched k).period
    some k lt = some_period p sv.periods (run n).now (run n).sched holds.tasks k lt

    -- a job that hasn't ended isn't late
    not_late : (k m : ℕ) → k < length p.tasks → m < (record_of p k).jobs → ended_of k (run n) ≤ m → n < m * level.period k + level.length k
    not_late k m lt job le =
        ⊎_elim (λ (y : n < m * level.period k + level.length k). y)
        (λ (late : m * level.period k + level.length k ≤ n). let e : m < ended_of k (run n) = (sv.closings.each k lt).ends m n job late in absurd (omega (arith, e, le)))
        (cases_lt n (m * level.period k + level.length k))

    in_tasks : (k : ℕ) → k < length p.tasks → k < length tasks
    in_tasks k lt = omega (arith, lt, sv.closings.count)

    -- the one for whom the core works
    work_blamed : (k : ℕ) → serves_of (run n) ≡ Some k → Blamed k (ended_of k (run n)) n
    work_blamed k e =
        let r : IsReady (run n).now (run n).sched k = served_ready p sv.periods rule content inputs requests n k on e in
        let lt : k < length p.tasks = omega (arith, r.0, holds.tasks.count) in
        let m : ((task_at (run n).sched k).ended < (task_at (run n).sched k).jobs)
        × ((task_at (run n).sched k).ended * (task_at (run n).sched k).period ≤ (run n).now) =
        ready_means (task_at (run n).sched k) (run n).now (some k lt) r.1 in
        let q : ended_of k (run n) * (task_at (run n).sched k).period ≡ ended_of k (run n) * level.period k = ap (λ i. ended_of k (run n) * i) (same_period k lt) in
        let late : n < ended_of k (run n) * level.period k + level.length k = not_late k (ended_of k (run n)) lt (omega (arith, m.0, holds.tasks.jobs k lt)) (omega arith) in
        record {
          shut = record {
            there = in_tasks k lt;
            near = omega (arith, m.1, q, now, some_longest);
            behind = omega (arith, m.1, q, now);
            within = omega (arith, late);
          };
          by_case = works (ap (λ o. is_task k o && (eqb (ended_of k (run n)) (ended_of k (run n)))) e
              ∙ ap (λ b. b && (eqb (ended_of k (run n)) (ended_of k (run n)))) (eq-eqb k k refl) ∙ eq-eqb (ended_of k (run n)) (ended_of k (run n)) refl);
        }

    -- the one for whose release idle time waits
    wait_blamed : (until k : ℕ) → Idles p sv.periods (run n).now until (run n).sched (run n).core.window →
        fits (run n).now (run n).core.window longest ≡ false → k < length p.tasks → waits_for until n k ≡ true → Blamed k (ended_of k (run n)) n
    wait_blamed until k i out lt e =
        let x : TaskJobs = task_at (run n).sched k in
        let parts : (has_jobs_left x ≡ true) × (eqb (x.ended * x.period) until ≡ true) = and_parts (has_jobs_left x) (eqb (x.ended * x.period) until) e in
        let at : x.ended * x.period ≡ until = eqb-true (x.ended * x.period) until parts.1 in
        let q : x.ended * x.period ≡ x.ended * level.period k = ap (λ i. x.ended * i) (same_period k lt) in
        let few : x.ended ≤ released x i.begun = i.rested.few k lt in
        let m : x.ended * x.period ≤ (i.begun / x.period + 1) * x.period = mul-le x.ended x.period (i.begun / x.period + 1) x.period (omega (arith, few)) (omega arith) in
        let s : (i.begun / x.period + 1) * x.period ≡ i.begun / x.period * x.period + 1 * x.period = add-mul (i.begun / x.period) 1 x.period in
        let l : i.begun / x.period * x.period ≤ i.begun = div-mul-le_self i.begun x.period in
        let near : (run n).core.window.close < (run n).now + longest = passed (run n).now longest (run n).core.window i.start out in
        record {
          shut = record {
            there = in_tasks k lt;
            near = omega (arith, at, q, near, i.close, now);
            behind = sum x.ended (x.ended * x.period) (x.ended * level.period k) ((i.begun / x.period + 1) * x.period) (i.begun / x.period * x.period)
                x.period (level.period k) i.begun (run n).now n q m s l (same_period k lt) i.before now;
            within = omega (arith, at, q, i.more, now);
          };
          by_case = waits_near (omega (arith, at, q, i.more, now)) (omega (arith, at, q, near, i.close, now));
        } where
          passed : (now longest : ℕ) (w : Window) → w.start ≤ now → fits now w longest ≡ false → w.close < now + longest
          passed now longest w le out = by (leb (now + longest) w.close) refl where
            by : (b : Bool) → leb (now + longest) w.close ≡ b → w.close < now + longest
            by true e = absurd (let x : true ≡ false = sym (ap (λ a. a && (leb (now + longest) w.close)) (le-leb w.start now le) ∙ e) ∙ out in cc)
            by false e = leb-false (now + longest) w.close e

          sum : (e a b c f p q g t n : ℕ) → a ≡ b → a ≤ c → c ≡ f + 1 * p → f ≤ g → p ≡ q → g < t → t ≡ n → b ≤ n + q
          sum e a b c f p q g t n h1 h2 h3 h4 h5 h6 h7 = omega (arith, h1, h2, h3, h4, h5, h6, h7)

  -- the one whose job has ended with the cycle before
  end_blamed : (last k : ℕ) → is_over (run (suc last)) ≡ false → k < length p.tasks → just_ended (suc last) k ≡ true → Blamed k (ended_of k (run (suc last)) - 1) (suc last)
  end_blamed last k on lt e =
      let was : is_over (run last) ≡ false = on_before rule p content inputs requests last (suc last) (omega arith) on in
      let less : ended_of k (run last) < ended_of k (run (suc last)) = ltb-true (ended_of k (run last)) (ended_of k (run (suc last))) e in
      by was less (run_ends p sv.periods rule content inputs requests last k was) where
        by : is_over (run last) ≡ false → ended_of k (run last) < ended_of k (run (suc last)) →
            EndsOne p sv.periods (serves_of (run last)) (run last).sched (run (suc last)).sched k → Blamed k (ended_of k (run (suc last)) - 1) (suc last)
        by was less (inl same) = absurd (omega (arith, same, less))
        by was less (inr one) =
            let b : Blamed k (ended_of k (run last)) last = work_blamed last was k one.1 in
            let m : ended_of k (run (suc last)) - 1 ≡ ended_of k (run last) = omega (arith, one.0) in
            subst (λ i. Blamed k i (suc last)) (sym m)
            (record {
              shut = record { there = b.shut.there; near = omega (arith, b.shut.near); behind = omega (arith, b.shut.behind); within = late was b.shut.there one.1 };
              by_case = has_ended last refl (omega arith) less;
            }) where
              late : is_over (run last) ≡ false → k < length tasks → serves_of (run last) ≡ Some k → suc last ≤ ended_of k (run last) * level.period k + level.length k
              late was lt s =
                  let r : IsReady (run last).now (run last).sched k = served_ready p sv.periods rule content inputs requests last k was s in
                  let lk : k < length p.tasks = omega (arith, lt, sv.closings.count) in
                  let m : ((task_at (run last).sched k).ended < (task_at (run last).sched k).jobs)
                  × ((task_at (run last).sched k).ended * (task_at (run last).sched k).period ≤ (run last).now) =
                  ready_means (task_at (run last).sched k) (run last).now (some last was k lk) r.1 in
                  let n : last < ended_of k (run last) * level.period k + level.length k =
                  not_late last was k (ended_of k (run last)) lk (omega (arith, m.0, (holds last was).tasks.jobs k lk)) (omega arith) in
                  omega (arith, n)

  -- ---- all closed cycles

  three_false : (a b c : Bool) → (a || b || c) ≡ false → a ≡ false
  three_false true b c h = absurd (let x : true ≡ false = h in cc)
  three_false false b c h = refl

  idle_blamed : (n until : ℕ) → is_over (run n) ≡ false → Idles p sv.periods (run n).now until (run n).sched (run n).core.window →
      fits (run n).now (run n).core.window longest ≡ false → IsBlamed n (shut_next n (find (waits_for until n) (length p.tasks)))
  idle_blamed n until on i out =
      let w : Waited p sv.periods until (run n).sched i.begun = waited p sv.periods i.begun until (run n).now (run n).sched (holds n on).tasks i.rested in
      let x : TaskJobs = task_at (run n).sched w.task in
      let t : waits_for until n w.task ≡ true = ap (λ b. b && (eqb (x.ended * x.period) until)) w.left ∙ eq-eqb (x.ended * x.period) until w.at in
      let f : (j : ℕ) × (find (waits_for until n) (length p.tasks) ≡ Some j) × (j < length p.tasks) × (waits_for until n j ≡ true) = find_one (waits_for until n) (length p.tasks) w.task w.there t in
      subst (λ o. IsBlamed n (shut_next n o)) (sym f.1) (wait_blamed n on until f.0 i out f.2 f.3)

  point_blamed : (n until : ℕ) → is_over (run n) ≡ false → (run n).core.mode ≡ Point → choice (run n).now (run n).sched ≡ Rest until → IsBlamed n (shut_last n (find (just_ended n) (length p.tasks)))
  point_blamed zero until on e r = absurd (first_rests p sv.periods rule content inputs requests until r)
  point_blamed (suc n) until on e r =
      let x : (k : ℕ) × (k < length p.tasks) × (ended_of k (run (suc n)) ≡ ended_of k (run n) + 1) = run_rests p sv.periods rule content inputs requests n on until e r in
      let t : just_ended (suc n) x.0 ≡ true = lt-ltb (ended_of x.0 (run n)) (ended_of x.0 (run (suc n))) (omega (arith, x.2)) in
      let f : (j : ℕ) × (find (just_ended (suc n)) (length p.tasks) ≡ Some j) × (j < length p.tasks) × (just_ended (suc n) j ≡ true) = find_one (just_ended (suc n)) (length p.tasks) x.0 x.1 t in
      subst (λ o. IsBlamed (suc n) (shut_last (suc n) o)) (sym f.1) (end_blamed n f.0 on f.2 f.3)

  chosen_blamed : (n : ℕ) → is_over (run n) ≡ false → (run n).core.mode ≡ Point → (c : Choice) → choice (run n).now (run n).sched ≡ c →
      chosen_task c ≡ None → IsBlamed n (shut_last n (find (just_ended n) (length p.tasks)))
  chosen_blamed n on e (Run k) h s = absurd (let x : Some k ≡ None = s in cc)
  chosen_blamed n on e (Rest until) h s = point_blamed n until on e h
  chosen_blamed n on e Finished h s =
      let x : is_finished (run n) ≡ false = three_false (is_finished (run n)) (is_some (run n).trapped) (is_full (run n)) on in
      let y : is_finished (run n) ≡ true = ap (is_finished_in (run n).now (run n).sched) e ∙ ap is_finish h in
      absurd (let z : true ≡ false = sym y ∙ x in cc)

  mode_blamed : (n : ℕ) → is_over (run n) ≡ false → fits (run n).now (run n).core.window longest ≡ false → (m : Mode) → (run n).core.mode ≡ m →
      InMode p sv.periods (run n).now (run n).sched (run n).core.window (run n).core.debt m → serves_in (run n).now (run n).sched m ≡ None →
      IsBlamed n (blame_idle n m)
  mode_blamed n on out Point e h s = chosen_blamed n on e (choice (run n).now (run n).sched) refl s
  mode_blamed n on out (Switching k left) e h s = absurd (let x : Some k ≡ None = s in cc)
  mode_blamed n on out (Running k) e h s = absurd (let x : Some k ≡ None = s in cc)
  mode_blamed n on out (Idle until) e h s = idle_blamed n until on h.0 out

  served_blamed : (n : ℕ) → is_over (run n) ≡ false → fits (run n).now (run n).core.window longest ≡ false → (o : Option ℕ) → serves_of (run n) ≡ o → IsBlamed n (blame_by n o)
  served_blamed n on out (Some k) e = work_blamed n on k e
  served_blamed n on out None e = mode_blamed n on out (run n).core.mode refl (holds n on).mode e

  pub closed_blamed : (n : ℕ) → is_over (run n) ≡ false → fits (run n).now (run n).core.window longest ≡ false → IsBlamed n (blame n)
  closed_blamed n on out = served_blamed n on out (serves_of (run n)) refl

  -- ---- what each cycle is for

  abbrev pub other : ℕ → Deed
  other n = cond (fits (run n).now (run n).core.window longest) Behind (blame n)

  abbrev pub deed_with : Option Carried → Deed → Deed
  deed_with None o = o
  deed_with (Some c) o = cond (ltb c.device (d + 1)) (Carries c.device) o

  abbrev pub does : ℕ → Deed
  does n = cond (is_over (run n)) Free (deed_with (coming_transfer requests (run n)) (other n))

  not_shut : (o : Option Carried) (x : Deed) (k m : ℕ) → deed_with o x ≡ Shut k m → x ≡ Shut k m
  not_shut None x k m e = e
  not_shut (Some c) x k m e = by (ltb c.device (d + 1)) e where
    by : (b : Bool) → cond b (Carries c.device) x ≡ Shut k m → x ≡ Shut k m
    by true e = absurd (let y : Carries c.device ≡ Shut k m = e in cc)
    by false e = e

  pub shut_blamed : (n k m : ℕ) → does n ≡ Shut k m → (is_over (run n) ≡ false) × (is_closed longest (run n) ≡ true) × Blamed k m n
  shut_blamed n k m e = by (is_over (run n)) refl where
    inner : is_over (run n) ≡ false → (b : Bool) → fits (run n).now (run n).core.window longest ≡ b → cond b Behind (blame n) ≡ Shut k m →
        (is_over (run n) ≡ false) × (is_closed longest (run n) ≡ true) × Blamed k m n
    inner on true f h = absurd (let x : Behind ≡ Shut k m = h in cc)
    inner on false f h = (on, ap not f, subst (IsBlamed n) h (closed_blamed n on f))

    by : (b : Bool) → is_over (run n) ≡ b → (is_over (run n) ≡ false) × (is_closed longest (run n) ≡ true) × Blamed k m n
    by true f = absurd (let x : Free ≡ Shut k m = sym (ap (λ b. cond b Free (deed_with (coming_transfer requests (run n)) (other n))) f) ∙ e in cc)
    by false f =
        let x : deed_with (coming_transfer requests (run n)) (other n) ≡ Shut k m = sym (ap (λ b. cond b Free (deed_with (coming_transfer requests (run n)) (other n))) f) ∙ e in
        inner f (fits (run n).now (run n).core.window longest) refl (not_shut (coming_transfer requests (run n)) (other n) k m x)
