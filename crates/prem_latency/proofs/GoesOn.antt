-- A run goes on up to the last release of each of its tasks.
use Rattle.std.specs.Prelude.{◌||◌, All, is_some}
use Rattle.std.proofs.Common.{◌≡◌, ℕ, zero, suc, ◌+◌, ◌*◌, ◌<◌, ◌≤◌, refl, ap, sym, ◌∙◌, arith, true, false, Bool, Some, None, Option, List, length, inl, inr, ⊎_elim}
use Rattle.std.proofs.lemmas.Bool.{cases_lt}
use Rattle.std.proofs.lemmas.Nat.{mul-le}
use Rattle.prem_sched.specs.declared.sched.TaskJobs.{TaskJobs}
use Rattle.prem_sched.specs.declared.sched.Choice.{Choice}
use Rattle.prem_sched.specs.declared.sched.Choice.TheVariants.{Run, Idle as Rest, Finished}
use Rattle.prem_sched.specs.Schedule.{choice, run_or, rest, least_release, first_ready, no_task, task_at, IsReady}
use Rattle.prem_sched.proofs.Choices.{least_none}
use Rattle.prem_lru.specs.Entries.{ReplacementRule}
use Rattle.prem_gate.specs.declared.request.Request.{Request}
use Rattle.prem_image.specs.declared.image.TaskRecord.{TaskRecord}
use Rattle.prem_cycle.specs.declared.state.Mode.{Mode}
use Rattle.prem_cycle.specs.declared.state.Mode.TheVariants.{Point, Switching, Running, Idle}
use Rattle.prem_cycle.specs.State.{Setup, MachineState, record_of}
use Rattle.prem_cycle.specs.Cycle.{is_finish, is_finished_in, is_finished, is_full, is_over}
use Rattle.prem_cycle.proofs.Time.{run_of-now}
use Rattle.prem_latency.specs.Served.{serves_of}
use Rattle.prem_latency.proofs.Steps.{state}
use Rattle.prem_latency.proofs.Scheduled.{Holds, EndsOne, Settled, some_period, ready_means, first_holds, first_ended, next_settles, served_ready}

-- ---- while a task has jobs left

no_more : (o l : Option ℕ) → run_or o (rest l) ≡ Finished → l ≡ None
no_more (Some k) l e = absurd (let x : Run k ≡ Finished = e in cc)
no_more None (Some until) e = absurd (let x : Rest until ≡ Finished = e in cc)
no_more None None e = refl

not_chosen : (now : ℕ) (sched : List TaskJobs) (k : ℕ) → k < length sched → (task_at sched k).ended < (task_at sched k).jobs → (c : Choice) → choice now sched ≡ c → is_finish c ≡ false
not_chosen now sched k lt job (Run j) e = refl
not_chosen now sched k lt job (Rest until) e = refl
not_chosen now sched k lt job Finished e =
    let done : (task_at sched k).jobs ≤ (task_at sched k).ended = least_none now sched (no_more (first_ready now 0 sched) (least_release now sched) e) k no_task lt in
    absurd (omega (arith, done, job))

unfinished : (s : MachineState) (k : ℕ) → k < length s.sched → (task_at s.sched k).ended < (task_at s.sched k).jobs → is_finished s ≡ false
unfinished s k lt job = by s.core.mode where
  by : (m : Mode) → is_finished_in s.now s.sched m ≡ false
  by Point = not_chosen s.now s.sched k lt job (choice s.now s.sched) refl
  by (Switching j left) = refl
  by (Running j) = refl
  by (Idle until) = refl

all_false : (a b c : Bool) → a ≡ false → b ≡ false → c ≡ false → (a || b || c) ≡ false
all_false true b c e f g = absurd (let x : true ≡ false = e in cc)
all_false false true c e f g = absurd (let x : true ≡ false = f in cc)
all_false false false true e f g = absurd (let x : true ≡ false = g in cc)
all_false false false false e f g = refl

-- fewer jobs than the last one has, where they are released before it
before_last : (ended period last now limit : ℕ) → ended * period ≤ now → now < limit → last * period ≡ limit → ended < last
before_last ended period last now limit released before is =
    ⊎_elim (λ (lt : ended < last). lt)
    (λ (le : last ≤ ended). let more : last * period ≤ ended * period = mul-le last period ended period le (omega arith) in absurd (omega (arith, released, before, is, more)))
    (cases_lt ended last)

-- ---- a run that doesn't trap, and whose logs have room

module _ (p : Setup) (periods : All (λ (r : TaskRecord). 1 ≤ r.period) p.tasks) (rule : ReplacementRule) (content : List ℕ) (inputs : List (List ℕ)) (requests : List Request)
    (untrapped : (n : ℕ) → (state rule p content inputs requests n).trapped ≡ None)
    (room : (n : ℕ) → is_finished (state rule p content inputs requests n) ≡ false → is_full (state rule p content inputs requests n) ≡ false)
    (k last limit : ℕ) (lt : k < length p.tasks) (jobs : (record_of p k).jobs ≡ suc last) (is_last : last * (record_of p k).period ≡ limit) where
  abbrev run : ℕ → MachineState
  run n = state rule p content inputs requests n

  -- the last job hasn't ended
  record Left (n : ℕ) : Type 0 where
    holds : Holds p periods (run n)
    few : (task_at (run n).sched k).ended ≤ last

  going : (n : ℕ) → Left n → is_finished (run n) ≡ false
  going n h =
      let job : (task_at (run n).sched k).jobs ≡ (record_of p k).jobs = h.holds.tasks.jobs k lt in
      unfinished (run n) k (let count = h.holds.tasks.count in omega (arith, lt, count)) (let few = h.few in omega (arith, few, job, jobs))

  not_over : (n : ℕ) → Left n → is_over (run n) ≡ false
  not_over n h = let on = going n h in all_false (is_finished (run n)) (is_some (run n).trapped) (is_full (run n)) on (ap is_some (untrapped n)) (room n on)

  ended_next : (n : ℕ) → n < limit → (h : Left n) → EndsOne p periods (serves_of (run n)) (run n).sched (run (suc n)).sched k → (task_at (run (suc n)).sched k).ended ≤ last
  ended_next n before h (inl same) = let few = h.few in omega (arith, few, same)
  ended_next n before h (inr one) =
      let on = not_over n h in
      let ready : IsReady (run n).now (run n).sched k = served_ready p periods rule content inputs requests n k on one.1 in
      let means = ready_means (task_at (run n).sched k) (run n).now (some_period p periods (run n).now (run n).sched h.holds.tasks k lt) ready.1 in
      let period : (task_at (run n).sched k).period ≡ (record_of p k).period = h.holds.tasks.period k lt in
      let now : (run n).now ≡ n = run_of-now rule p content inputs requests n on in
      let same : last * (task_at (run n).sched k).period ≡ limit = ap (λ q. last * q) period ∙ is_last in
      let less : (task_at (run n).sched k).ended < last =
      before_last (task_at (run n).sched k).ended (task_at (run n).sched k).period last (run n).now limit means.1 (omega (arith, before, now)) same in
      let next : (task_at (run (suc n)).sched k).ended ≡ (task_at (run n).sched k).ended + 1 = one.0 in
      omega (arith, less, next)

  next_left : (n : ℕ) → n < limit → Left n → Left (suc n)
  next_left n before h =
      ⊎_elim (λ (trap : (is_some (run (suc n)).trapped ≡ true) × ((j : ℕ) → EndsOne p periods (serves_of (run n)) (run n).sched (run (suc n)).sched j)).
      absurd (let x : true ≡ false = sym trap.0 ∙ ap is_some (untrapped (suc n)) in cc))
      (λ (s : Settled p periods (serves_of (run n)) (run n).sched (run (suc n))). record { holds = s.holds; few = ended_next n before h (s.ends k) })
      (next_settles p periods rule content inputs requests n (not_over n h) h.holds)

  left : (n : ℕ) → n ≤ limit → Left n
  left zero le = record { holds = first_holds p periods rule content inputs requests; few = let none = first_ended p periods rule content inputs requests k in omega (arith, none) }
  left (suc n) le = next_left n (omega (arith, le)) (left n (omega (arith, le)))

  -- it isn't finished where the last job of a task is released, nor before
  pub goes_on : (n : ℕ) → n ≤ limit → is_finished (run n) ≡ false
  goes_on n le = going n (left n le)
