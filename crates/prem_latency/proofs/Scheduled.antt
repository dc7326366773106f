-- What holds of the tasks and the core's mode in every state of a run: who is served has a job that is released, idle time ends with a
-- release, and it begins where a job has ended.
use Rattle.std.specs.Prelude.{◌&&◌, ◌||◌, All, is_some, map}
use Rattle.std.proofs.Common.{◌≡◌, ℕ, zero, suc, ◌+◌, ◌*◌, ◌/◌, ◌<◌, ◌≤◌, min, refl, ap, ◌∙◌, sym, subst, arith, eqb, ltb, cond, true, false, Bool, Some, None, Option, List, []}
use Rattle.std.proofs.Common.{◌∷◌, length, get_or, ◌⊎◌, inl, inr, ⊎_elim}
use Rattle.std.proofs.lemmas.Bool.{cases_lt, cases_eq, cases_Bool, and_parts, ltb-true, ltb-false, lt-ltb, cond_both}
use Rattle.std.proofs.lemmas.Nat.{le-div, mul-le}
use Rattle.std.proofs.Math.Nat.{div-mul-le_self, add-mul}
use Rattle.std.proofs.lemmas.List.{get_or-set_same, get_or-set_other, length-set}
use Rattle.prem_sched.specs.declared.sched.TaskJobs.{TaskJobs}
use Rattle.prem_sched.specs.declared.sched.Choice.{Choice}
use Rattle.prem_sched.specs.declared.sched.Choice.TheVariants.{Run, Idle as Rest, Finished}
use Rattle.prem_sched.specs.Schedule.{choice, run_or, rest, least_release, earlier, has_jobs_left, is_ready, released, first_ready, no_task, task_at, with_job, job_ended}
use Rattle.prem_sched.specs.Schedule.{NoneReady, IsReady, starts_of}
use Rattle.prem_sched.proofs.Choices.{FirstReady, first_found, none_found}
use Rattle.prem_isa.specs.declared.effect.Change.{Change}
use Rattle.prem_isa.specs.declared.effect.Change.TheVariants.{Stay, Memory, Execute, End, Job}
use Rattle.prem_lru.specs.Entries.{ReplacementRule}
use Rattle.prem_gate.specs.declared.request.Request.{Request}
use Rattle.prem_gate.specs.declared.bus.Window.{Window}
use Rattle.prem_gate.specs.Gates.{Turned, wants}
use Rattle.prem_image.specs.declared.image.TaskRecord.{TaskRecord}
use Rattle.prem_cycle.specs.declared.state.Interval.{Interval}
use Rattle.prem_gate.specs.declared.bus.CoreWant.TheVariants.{No, New, Held}
use Rattle.prem_cycle.specs.declared.state.Mode.{Mode}
use Rattle.prem_cycle.specs.declared.state.Mode.TheVariants.{Point, Switching, Running, Idle}
use Rattle.prem_cycle.specs.State.{Setup, MachineState, Work, CoreState, Counts, Debt, record_of, no_record}
use Rattle.prem_cycle.specs.Issue.{Attempt, Traps, Executes, attempt_behind}
use Rattle.prem_cycle.specs.Core.{want_of, is_empty, is_paid, CoreMove, Passes, Issues, core_issue, core_turn}
use Rattle.prem_cycle.specs.Cycle.{arrivals_at, bus_at, with_memory, with_clash, move_at, core_at, joined, at_point, close_interval, ends_before, sched_after, settle, with_now}
use Rattle.prem_cycle.specs.Cycle.{next_cycle, cycle_of, is_finish, is_finished_in, is_finished, is_full, is_over}
use Rattle.prem_cycle.specs.Run.{cycles_of}
use Rattle.prem_cycle.proofs.CoreCases.{MoveCase, pays_on_bus, is_denied, pays_cost, waits, goes_on, switches, begins, chooses, chooses_now, begins_idle, has_finished, idles, move_cases}
use Rattle.prem_latency.specs.Served.{serves_of}
use Rattle.prem_resp.specs.Deadline.Timeline.{chosen_task, serves_in}
use Rattle.prem_latency.proofs.Steps.{state, goes_is, on_before}

-- ---- the choice

first_by : (now : ℕ) (sched : List TaskJobs) (k : ℕ) (o l : Option ℕ) → first_ready now 0 sched ≡ o → run_or o (rest l) ≡ Run k → first_ready now 0 sched ≡ Some k
first_by now sched k (Some j) l f e = let x : Run j ≡ Run k = e in let same : j ≡ k = cc in f ∙ ap Some same
first_by now sched k None None f e = absurd (let x : Finished ≡ Run k = e in cc)
first_by now sched k None (Some u) f e = absurd (let x : Rest u ≡ Run k = e in cc)

pub run_ready : (now : ℕ) (sched : List TaskJobs) (k : ℕ) → choice now sched ≡ Run k → IsReady now sched k
run_ready now sched k e =
    let f : FirstReady now 0 sched k = first_found now 0 sched k (first_by now sched k (first_ready now 0 sched) (least_release now sched) refl e) in
    let n : f.place ≡ k = omega (arith, f.number) in
    subst (IsReady now sched) n f.ready

rest_by : (now : ℕ) (sched : List TaskJobs) (until : ℕ) (o l : Option ℕ) → first_ready now 0 sched ≡ o → least_release now sched ≡ l →
    run_or o (rest l) ≡ Rest until → (first_ready now 0 sched ≡ None) × (least_release now sched ≡ Some until)
rest_by now sched until (Some k) l f m e = absurd (let x : Run k ≡ Rest until = e in cc)
rest_by now sched until None None f m e = absurd (let x : Finished ≡ Rest until = e in cc)
rest_by now sched until None (Some u) f m e = let x : Rest u ≡ Rest until = e in let same : u ≡ until = cc in (f, m ∙ ap Some same)

-- a rest ends with the next release of one of them that has jobs left
pub record Releases (now : ℕ) (sched : List TaskJobs) (until : ℕ) : Type 0 where
  pub task : ℕ
  pub there : task < length sched
  pub left : has_jobs_left (task_at sched task) ≡ true
  pub at : (now / (task_at sched task).period + 1) * (task_at sched task).period ≡ until

behind_one : (now : ℕ) (t : TaskJobs) (ts : List TaskJobs) (until : ℕ) → Releases now ts until → Releases now (t ∷ ts) until
behind_one now t ts until h = record { task = suc h.task; there = omega (arith, h.there); left = h.left; at = h.at }

either_min : (a b u : ℕ) → min a b ≡ u → (a ≡ u) ⊎ (b ≡ u)
either_min a b u e = ⊎_elim (λ (lt : a < b). inl (omega (arith, lt, e))) (λ (le : b ≤ a). inr (omega (arith, le, e))) (cases_lt a b)

one_releases : (now : ℕ) (t : TaskJobs) (ts : List TaskJobs) (until : ℕ) (left : Bool) (o : Option ℕ) → has_jobs_left t ≡ left →
    ((v : ℕ) → o ≡ Some v → Releases now ts v) → earlier (cond left (Some ((now / t.period + 1) * t.period)) None) o ≡ Some until → Releases now (t ∷ ts) until
one_releases now t ts until false o l behind e = behind_one now t ts until (behind until e)
one_releases now t ts until true None l behind e =
    let x : Some ((now / t.period + 1) * t.period) ≡ Some until = e in
    let same : (now / t.period + 1) * t.period ≡ until = cc in
    record { task = 0; there = omega arith; left = l; at = same }
one_releases now t ts until true (Some v) l behind e =
    let x : Some (min ((now / t.period + 1) * t.period) v) ≡ Some until = e in
    let same : min ((now / t.period + 1) * t.period) v ≡ until = cc in
    ⊎_elim (λ (here : (now / t.period + 1) * t.period ≡ until). record { task = 0; there = omega arith; left = l; at = here })
    (λ (there : v ≡ until). behind_one now t ts until (behind until (ap Some there)))
    (either_min ((now / t.period + 1) * t.period) v until same)

least_releases : (now : ℕ) (sched : List TaskJobs) (until : ℕ) → least_release now sched ≡ Some until → Releases now sched until
least_releases now [] until e = absurd (let x : None ≡ Some until = e in cc)
least_releases now (t ∷ ts) until e = one_releases now t ts until (has_jobs_left t) (least_release now ts) refl (λ v h. least_releases now ts v h) e

pub rest_releases : (now : ℕ) (sched : List TaskJobs) (until : ℕ) → choice now sched ≡ Rest until → Releases now sched until
rest_releases now sched until e = least_releases now sched until (rest_by now sched until (first_ready now 0 sched) (least_release now sched) refl refl e).1

pub rest_none : (now : ℕ) (sched : List TaskJobs) (until : ℕ) → choice now sched ≡ Rest until → NoneReady now sched
rest_none now sched until e = none_found now 0 sched (rest_by now sched until (first_ready now 0 sched) (least_release now sched) refl refl e).0

-- ---- a task is ready later too

div_grows : (a b k : ℕ) → 0 < k → a ≤ b → a / k ≤ b / k
div_grows a b k pos le = le-div (a / k) b k pos (let x : a / k * k ≤ a = div-mul-le_self a k in omega (arith, x, le))

released_grows : (t : TaskJobs) (a b : ℕ) → 1 ≤ t.period → a ≤ b → released t a ≤ released t b
released_grows t a b some le = let x : a / t.period ≤ b / t.period = div_grows a b t.period (omega (arith, some)) le in omega (arith, x)

ready_later : (t : TaskJobs) (a b : ℕ) → 1 ≤ t.period → a ≤ b → is_ready a t ≡ true → is_ready b t ≡ true
ready_later t a b some le h =
    let x : t.ended < released t a = ltb-true t.ended (released t a) h in
    lt-ltb t.ended (released t b) (omega (arith, x, released_grows t a b some le))

pub ready_means : (t : TaskJobs) (now : ℕ) → 1 ≤ t.period → is_ready now t ≡ true → (t.ended < t.jobs) × (t.ended * t.period ≤ now)
ready_means t now some h =
    let x : t.ended < released t now = ltb-true t.ended (released t now) h in
    let m : t.ended * t.period ≤ now / t.period * t.period = mul-le t.ended t.period (now / t.period) t.period (omega (arith, x)) (omega arith) in
    (omega (arith, x), (let y : now / t.period * t.period ≤ now = div-mul-le_self now t.period in omega (arith, m, y)))

module _ (p : Setup) (periods : All (λ (r : TaskRecord). 1 ≤ r.period) p.tasks) where
  -- ---- the tasks

  pub record Tasks (now : ℕ) (sched : List TaskJobs) : Type 0 where
    pub count : length sched ≡ length p.tasks
    pub period : (k : ℕ) → k < length p.tasks → (task_at sched k).period ≡ (record_of p k).period
    pub jobs : (k : ℕ) → k < length p.tasks → (task_at sched k).jobs ≡ (record_of p k).jobs
    pub few : (k : ℕ) → k < length p.tasks → (task_at sched k).ended ≤ released (task_at sched k) now

  pub some_period : (now : ℕ) (sched : List TaskJobs) → Tasks now sched → (k : ℕ) → k < length p.tasks → 1 ≤ (task_at sched k).period
  some_period now sched t k lt = let e : (task_at sched k).period ≡ (record_of p k).period = t.period k lt in let s : 1 ≤ (record_of p k).period = periods k no_record lt in omega (arith, e, s)

  tasks_later : (now : ℕ) (sched : List TaskJobs) → Tasks now sched → Tasks (now + 1) sched
  tasks_later now sched t = record {
    count = t.count;
    period = t.period;
    jobs = t.jobs;
    few = λ k lt. let x : (task_at sched k).ended ≤ released (task_at sched k) now = t.few k lt in
        let g : released (task_at sched k) now ≤ released (task_at sched k) (now + 1) =
        released_grows (task_at sched k) now (now + 1) (some_period now sched t k lt) (omega arith) in omega (arith, x, g);
  }

  -- ---- the mode

  -- idle time until then was chosen in a cycle
  pub record Rested (begun until : ℕ) (sched : List TaskJobs) : Type 0 where
    pub chosen : choice begun sched ≡ Rest until
    pub few : (k : ℕ) → k < length p.tasks → (task_at sched k).ended ≤ released (task_at sched k) begun

  pub record Idles (now until : ℕ) (sched : List TaskJobs) (w : Window) : Type 0 where
    pub begun : ℕ
    pub before : begun < now
    pub rested : Rested begun until sched
    pub more : now < until
    pub start : w.start ≤ now
    pub close : w.close ≡ until

  abbrev pub InMode : (now : ℕ) (sched : List TaskJobs) → Window → Debt → Mode → Type 0
  InMode now sched w d Point = wants (want_of d) ≡ false
  InMode now sched w d (Switching k left) = IsReady now sched k × (wants (want_of d) ≡ false)
  InMode now sched w d (Running k) = IsReady now sched k
  InMode now sched w d (Idle until) = Idles now until sched w × (wants (want_of d) ≡ false)

  -- ---- the core's part

  -- behind it, where the coming cycle is now + 1, with the mode before what is over is settled: idle time may be over
  abbrev pub Turning : (now : ℕ) (sched : List TaskJobs) → Window → Debt → Mode → Type 0
  Turning now sched w d Point = ⊥
  Turning now sched w d (Switching k left) = IsReady now sched k × (wants (want_of d) ≡ false) × (k < length sched)
  Turning now sched w d (Running k) = IsReady now sched k
  Turning now sched w d (Idle until) = ((t : ℕ) × (t < now + 1) × Rested t until sched) × (wants (want_of d) ≡ false) × (w.start ≤ now + 1) × (w.close ≡ until)

  -- and the task that runs is the one that was served
  abbrev pub ServesRunning : (now : ℕ) (sched : List TaskJobs) → Mode → Mode → Type 0
  ServesRunning now sched before after = (k : ℕ) → after ≡ Running k → serves_in now sched before ≡ Some k

  pub record Turns (now : ℕ) (sched : List TaskJobs) (before : Mode) (c : CoreState) : Type 0 where
    pub turning : Turning now sched c.window c.debt c.mode
    pub serving : ServesRunning now sched before c.mode

  abbrev TurnsMove : (now : ℕ) (sched : List TaskJobs) → Mode → CoreMove → Type 0
  TurnsMove now sched before (Passes c) = Turns now sched before c
  TurnsMove now sched before (Issues k i) = IsReady now sched k × (serves_in now sched before ≡ Some k)

  module _ (now : ℕ) (had : Bool) (sched : List TaskJobs) (w : Work) (c : CoreState) (go : c.mode ≡ Point → choice now sched ≡ Finished → ⊥)
      (h : InMode now sched c.window c.debt c.mode) (ts : Tasks now sched) where
    at_mode : (m : Mode) → c.mode ≡ m → InMode now sched c.window c.debt m
    at_mode m e = subst (InMode now sched c.window c.debt) e h

    -- the mode stays: it is a task's, or idle
    stays_in : (c' : CoreState) (m : Mode) → c.mode ≡ m → c'.mode ≡ m → c'.window ≡ c.window → (m ≡ Point → ⊥) →
        (((k : ℕ) → m ≡ Running k → ⊥) → wants (want_of c'.debt) ≡ false) → Turns now sched c.mode c'
    stays_in c' m e f g np d = record {
      turning = by m e f np d;
      serving = λ k x. subst (λ y. serves_in now sched y ≡ Some k) (sym e ∙ ap (λ y. y) refl)
          (subst (λ y. serves_in now sched y ≡ Some k) (sym (sym f ∙ x)) refl);
    } where
      by : (m : Mode) → c.mode ≡ m → c'.mode ≡ m → (m ≡ Point → ⊥) → (((k : ℕ) → m ≡ Running k → ⊥) → wants (want_of c'.debt) ≡ false) → Turning now sched c'.window c'.debt c'.mode
      by Point e f np d = absurd (np refl)
      by (Switching k left) e f np d =
          let i : IsReady now sched k × (wants (want_of c.debt) ≡ false) = at_mode (Switching k left) e in
          subst (Turning now sched c'.window c'.debt) (sym f) (i.0, d (λ j x. let y : Switching k left ≡ Running j = x in cc), i.0.0)
      by (Running k) e f np d = subst (Turning now sched c'.window c'.debt) (sym f) (at_mode (Running k) e)
      by (Idle until) e f np d =
          let i : Idles now until sched c.window × (wants (want_of c.debt) ≡ false) = at_mode (Idle until) e in
          subst (Turning now sched c'.window c'.debt) (sym f) (
            (i.0.begun, omega (arith, i.0.before), i.0.rested),
            d (λ j x. let y : Idle until ≡ Running j = x in cc),
            subst (λ (v : Window). v.start ≤ now + 1) (sym g) (omega (arith, i.0.start)),
            ap (λ (v : Window). v.close) g ∙ i.0.close,
          )

    -- it doesn't want the bus but where a task runs
    no_want : (m : Mode) → c.mode ≡ m → ((k : ℕ) → m ≡ Running k → ⊥) → wants (want_of c.debt) ≡ false
    no_want Point e n = at_mode Point e
    no_want (Switching k left) e n = (at_mode (Switching k left) e).1
    no_want (Running k) e n = absurd (n k refl)
    no_want (Idle until) e n = (at_mode (Idle until) e).1

    wanting : (m : Mode) → c.mode ≡ m → wants (want_of c.debt) ≡ true → (k : ℕ) × (m ≡ Running k)
    wanting Point e q = absurd (let x : false ≡ true = sym (at_mode Point e) ∙ q in cc)
    wanting (Switching k left) e q = absurd (let x : false ≡ true = sym (at_mode (Switching k left) e).1 ∙ q in cc)
    wanting (Running k) e q = (k, refl)
    wanting (Idle until) e q = absurd (let x : false ≡ true = sym (at_mode (Idle until) e).1 ∙ q in cc)

    runs_on : (c' : CoreState) (k : ℕ) → c.mode ≡ Running k → c'.mode ≡ Running k → Turns now sched c.mode c'
    runs_on c' k e f = record {
      turning = subst (Turning now sched c'.window c'.debt) (sym f) (at_mode (Running k) e);
      serving = λ j x. subst (λ y. serves_in now sched y ≡ Some j) (sym (e ∙ sym f ∙ x)) refl;
    }

    none_runs : (c' : CoreState) (m : Mode) → c'.mode ≡ m → ((k : ℕ) → m ≡ Running k → ⊥) → ServesRunning now sched c.mode c'.mode
    none_runs c' m e n k x = absurd (n k (sym e ∙ x))

    turns : (m : CoreMove) → MoveCase p now had sched w c m → TurnsMove now sched c.mode m
    turns _ (pays_on_bus q x) = let r : (k : ℕ) × (c.mode ≡ Running k) = wanting c.mode refl q in runs_on _ r.0 r.1 r.1
    turns _ (is_denied q x) = let r : (k : ℕ) × (c.mode ≡ Running k) = wanting c.mode refl q in runs_on _ r.0 r.1 r.1
    turns _ (pays_cost k cost q e x) = runs_on _ k e e
    turns _ (waits k q e x y) = runs_on _ k e e
    turns _ (goes_on k q e x y) = (at_mode (Running k) e, ap (serves_in now sched) e)
    turns _ (switches k left q e) =
        let i : IsReady now sched k × (wants (want_of c.debt) ≡ false) = at_mode (Switching k (suc left)) e in
        record { turning = (i.0, i.1, i.0.0); serving = λ j x. absurd (let y : Switching k left ≡ Running j = x in cc) }
    turns _ (begins k q e) = ((at_mode (Switching k zero) e).0, ap (serves_in now sched) e)
    turns _ (chooses k left q e x z) =
        let r : IsReady now sched k = run_ready now sched k x in
        record { turning = (r, q, r.0); serving = λ j y. absurd (let z : Switching k left ≡ Running j = y in cc) }
    turns _ (chooses_now k q e x z) = (run_ready now sched k x, ap (serves_in now sched) e ∙ ap chosen_task x)
    turns _ (begins_idle until q e x) = record {
      turning = ((now, omega arith, record { chosen = x; few = ts.few }), q, omega arith, refl);
      serving = λ j y. absurd (let z : Idle until ≡ Running j = y in cc);
    }
    turns _ (has_finished q e x) = absurd (go e x)
    turns _ (idles until q e) = stays_in c (Idle until) e e refl (λ y. let z : Idle until ≡ Point = y in cc) (λ n. q)

  issue_turns : (rule : ReplacementRule) (now k : ℕ) (i : Interval) (sched : List TaskJobs) (before : Mode) (a : Attempt) (w : Work) (c : CoreState)
      (n : Counts) → IsReady now sched k × (serves_in now sched before ≡ Some k) → is_some (core_issue rule p now k i a w c n).trapped ≡ false →
      Turns now sched before (core_issue rule p now k i a w c n).core
  issue_turns rule now k i sched before (Traps cause) w c n h e = absurd (let x : true ≡ false = e in cc)
  issue_turns rule now k i sched before (Executes instr e) w c n h u = record {
    turning = h.0;
    serving = λ j x. let y : Running k ≡ Running j = x in let same : k ≡ j = cc in h.1 ∙ ap (λ m. Some m) same;
  }

  turn_turns : (rule : ReplacementRule) (now : ℕ) (sched : List TaskJobs) (before : Mode) (m : CoreMove) (w : Work) (c : CoreState) (n : Counts) →
      TurnsMove now sched before m → is_some (core_turn rule p now m w c n).trapped ≡ false → Turns now sched before (core_turn rule p now m w c n).core
  turn_turns rule now sched before (Passes c') w c n h u = h
  turn_turns rule now sched before (Issues k i) w c n h u = issue_turns rule now k i sched before (attempt_behind rule p k w) w c n h u

  -- ---- what is over

  -- who the idle time waits for
  pub record Waited (until : ℕ) (sched : List TaskJobs) (begun : ℕ) : Type 0 where
    pub task : ℕ
    pub there : task < length p.tasks
    pub left : has_jobs_left (task_at sched task) ≡ true
    pub at : (task_at sched task).ended * (task_at sched task).period ≡ until
    pub near : until ≤ begun + (task_at sched task).period

  pub waited : (begun until now : ℕ) (sched : List TaskJobs) → Tasks now sched → Rested begun until sched → Waited until sched begun
  waited begun until now sched t r =
      let f : Releases begun sched until = rest_releases begun sched until r.chosen in
      let lt : f.task < length p.tasks = omega (arith, f.there, t.count) in
      let x : TaskJobs = task_at sched f.task in
      let some : 1 ≤ x.period = some_period now sched t f.task lt in
      let few : x.ended ≤ released x begun = r.few f.task lt in
      let job : x.ended < x.jobs = ltb-true x.ended x.jobs f.left in
      let out : is_ready begun x ≡ false =
      ⊎_elim (λ (yes : is_ready begun x ≡ true). absurd (rest_none begun sched until r.chosen f.task (f.there, yes))) (λ (no_one : is_ready begun x ≡ false). no_one) (cases_Bool (is_ready begun x)) in
      let none : released x begun ≤ x.ended = ltb-false x.ended (released x begun) out in
      let n : x.ended ≡ begun / x.period + 1 = omega (arith, few, none, job) in
      let e : x.ended * x.period ≡ until = ap (λ m. m * x.period) n ∙ f.at in
      let d : (begun / x.period + 1) * x.period ≡ begun / x.period * x.period + 1 * x.period = add-mul (begun / x.period) 1 x.period in
      let l : begun / x.period * x.period ≤ begun = div-mul-le_self begun x.period in
      record { task = f.task; there = lt; left = f.left; at = e; near = sum (begun / x.period * x.period) ((begun / x.period + 1) * x.period) begun x.period until d l f.at } where
        sum : (a b n p u : ℕ) → b ≡ a + 1 * p → a ≤ n → b ≡ u → u ≤ n + p
        sum a b n p u d l e = omega (arith, d, l, e)

  -- it is ready by then
  waited_ready : (until begun now : ℕ) (sched : List TaskJobs) → Tasks now sched → (w : Waited until sched begun) → until ≤ now → IsReady now sched w.task
  waited_ready until begun now sched t w le =
      let x : TaskJobs = task_at sched w.task in
      let some : 1 ≤ x.period = some_period now sched t w.task w.there in
      let job : x.ended < x.jobs = ltb-true x.ended x.jobs w.left in
      let q : x.ended ≤ now / x.period = le-div x.ended now x.period (omega (arith, some)) (omega (arith, w.at, le)) in
      (omega (arith, w.there, t.count), lt-ltb x.ended (released x now) (omega (arith, q, job)))

  -- a state
  pub record Holds (s : MachineState) : Type 0 where
    pub tasks : Tasks s.now s.sched
    pub mode : InMode s.now s.sched s.core.window s.core.debt s.core.mode

  -- how many jobs of a task have ended behind a cycle in which this task was served
  abbrev pub EndsOne : (served : Option ℕ) (sched sched' : List TaskJobs) → ℕ → Type 0
  EndsOne served sched sched' k =
      ((task_at sched' k).ended ≡ (task_at sched k).ended)
      ⊎ (((task_at sched' k).ended ≡ (task_at sched k).ended + 1) × (served ≡ Some k))

  -- where idle time is chosen, a job has ended
  abbrev pub EndsBeforeRest : (sched : List TaskJobs) → MachineState → Type 0
  EndsBeforeRest sched s = (until : ℕ) → s.core.mode ≡ Point → choice s.now s.sched ≡ Rest until → (k : ℕ) × (k < length p.tasks) × ((task_at s.sched k).ended ≡ (task_at sched k).ended + 1)

  pub record Settled (served : Option ℕ) (sched : List TaskJobs) (s : MachineState) : Type 0 where
    pub holds : Holds s
    pub ends : (k : ℕ) → EndsOne served sched s.sched k
    pub rest : EndsBeforeRest sched s

  paid_wants : (d : Debt) → is_paid d ≡ true → wants (want_of d) ≡ false
  paid_wants d h = by (is_empty d.transactions) refl where
    by : (b : Bool) → is_empty d.transactions ≡ b → wants (want_of d) ≡ false
    by true e = ap (λ b. wants (cond b No (cond d.begun Held New))) e
    by false e = absurd (let x : false ≡ true = sym (ap (λ b. b && (eqb d.cost 0)) e) ∙ h in cc)

  ready_next : (now : ℕ) (sched : List TaskJobs) (k : ℕ) → Tasks now sched → IsReady now sched k → IsReady (now + 1) sched k
  ready_next now sched k t r = (r.0, ready_later (task_at sched k) now (now + 1) (some_period now sched t k (omega (arith, r.0, t.count))) (omega arith) r.1)

  same_ends : (served : Option ℕ) (sched : List TaskJobs) (k : ℕ) → EndsOne served sched sched k
  same_ends served sched k = inl refl

  -- a task that is ready is chosen
  no_rest : (now : ℕ) (sched : List TaskJobs) (k until : ℕ) → IsReady now sched k → choice now sched ≡ Rest until → ⊥
  no_rest now sched k until r e = rest_none now sched until e k r

  module _ (served : Option ℕ) (s : MachineState) (now : ℕ) (is : s.now ≡ now + 1) (t : Tasks now s.sched) where
    later : Tasks s.now s.sched
    later = subst (λ n. Tasks n s.sched) (sym is) (tasks_later now s.sched t)

    job_tasks : (k : ℕ) → IsReady now s.sched k → Tasks s.now (job_ended k s.sched)
    job_tasks k r =
        let x : TaskJobs = with_job (task_at s.sched k) in
        let same : task_at (job_ended k s.sched) k ≡ x = get_or-set_same s.sched k x no_task r.0 in
        let others : (j : ℕ) → (j ≡ k → ⊥) → task_at (job_ended k s.sched) j ≡ task_at s.sched j = λ j ne. get_or-set_other s.sched k j x no_task ne in
        let ready : (task_at s.sched k).ended < released (task_at s.sched k) now = ltb-true (task_at s.sched k).ended (released (task_at s.sched k) now) r.1 in
        record {
          count = length-set s.sched k x ∙ t.count;
          period = λ j lt.
              ⊎_elim (λ (e : j ≡ k). ap (λ i. (task_at (job_ended k s.sched) i).period) e ∙ ap (λ (y : TaskJobs). y.period) same ∙ ap (λ i. (task_at s.sched i).period) (sym e) ∙ t.period j lt)
              (λ (ne : j ≡ k → ⊥). ap (λ (y : TaskJobs). y.period) (others j ne) ∙ t.period j lt) (cases_eq j k);
          jobs = λ j lt.
              ⊎_elim (λ (e : j ≡ k). ap (λ i. (task_at (job_ended k s.sched) i).jobs) e ∙ ap (λ (y : TaskJobs). y.jobs) same ∙ ap (λ i. (task_at s.sched i).jobs) (sym e) ∙ t.jobs j lt)
              (λ (ne : j ≡ k → ⊥). ap (λ (y : TaskJobs). y.jobs) (others j ne) ∙ t.jobs j lt) (cases_eq j k);
          few = λ j lt.
              ⊎_elim (λ (e : j ≡ k).
              subst (λ (y : TaskJobs). y.ended ≤ released y s.now) (sym (ap (task_at (job_ended k s.sched)) e ∙ same))
              (let g : released (task_at s.sched k) now ≤ released (task_at s.sched k) s.now =
              released_grows (task_at s.sched k) now s.now (some_period now s.sched t k (omega (arith, r.0, t.count))) (omega (arith, is)) in
              omega (arith, ready, g)))
              (λ (ne : j ≡ k → ⊥). subst (λ (y : TaskJobs). y.ended ≤ released y s.now) (sym (others j ne)) (later.few j lt))
              (cases_eq j k);
        }

    job_ends : (k : ℕ) → IsReady now s.sched k → served ≡ Some k → (j : ℕ) → EndsOne served s.sched (job_ended k s.sched) j
    job_ends k r e j =
        let x : TaskJobs = with_job (task_at s.sched k) in
        ⊎_elim (λ (same : j ≡ k).
        inr (
          ap (λ i. (task_at (job_ended k s.sched) i).ended) same ∙ ap (λ (y : TaskJobs). y.ended) (get_or-set_same s.sched k x no_task r.0)
              ∙ ap (λ i. (task_at s.sched i).ended + 1) (sym same),
          e ∙ ap (λ i. Some i) (sym same),
        ))
        (λ (ne : j ≡ k → ⊥). inl (ap (λ (y : TaskJobs). y.ended) (get_or-set_other s.sched k j x no_task ne)))
        (cases_eq j k)

    closes_by : (mark : Change) (k : ℕ) → s.core.mark ≡ mark → IsReady now s.sched k → served ≡ Some k → wants (want_of s.core.debt) ≡ false →
        (sched' : List TaskJobs) → sched' ≡ sched_after mark k s.sched → (u : MachineState) → u.now ≡ s.now → u.sched ≡ sched' →
        u.core ≡ at_point s.core → Settled served s.sched u
    closes_by mark k m r e q sched' f u n us c = record {
      holds = record {
        tasks = subst (λ i. Tasks i u.sched) (sym n) (subst (Tasks s.now) (sym (us ∙ f)) (by_tasks mark));
        mode = subst (λ (v : CoreState). InMode u.now u.sched v.window v.debt v.mode) (sym c) q;
      };
      ends = λ j. subst (λ l. EndsOne served s.sched l j) (sym (us ∙ f)) (by_ends mark j);
      rest = λ until p h. by_rest mark until (ap (λ i. choice i u.sched) (sym n) ∙ h) (us ∙ f);
    } where
      by_tasks : (mark : Change) → Tasks s.now (sched_after mark k s.sched)
      by_tasks Stay = later
      by_tasks Memory = later
      by_tasks (Execute stated) = later
      by_tasks End = later
      by_tasks Job = job_tasks k r

      by_ends : (mark : Change) (j : ℕ) → EndsOne served s.sched (sched_after mark k s.sched) j
      by_ends Stay j = inl refl
      by_ends Memory j = inl refl
      by_ends (Execute stated) j = inl refl
      by_ends End j = inl refl
      by_ends Job j = job_ends k r e j

      still : (until : ℕ) → choice s.now u.sched ≡ Rest until → u.sched ≡ s.sched → (k : ℕ) × (k < length p.tasks) × ((task_at u.sched k).ended ≡ (task_at s.sched k).ended + 1)
      still until h same = absurd (no_rest s.now s.sched k until (subst (λ i. IsReady i s.sched k) (sym is) (ready_next now s.sched k t r)) (ap (choice s.now) (sym same) ∙ h))

      by_rest : (mark : Change) (until : ℕ) → choice s.now u.sched ≡ Rest until → u.sched ≡ sched_after mark k s.sched →
          (k : ℕ) × (k < length p.tasks) × ((task_at u.sched k).ended ≡ (task_at s.sched k).ended + 1)
      by_rest Stay until h same = still until h same
      by_rest Memory until h same = still until h same
      by_rest (Execute stated) until h same = still until h same
      by_rest End until h same = still until h same
      by_rest Job until h same = (
        k,
        omega (arith, r.0, t.count),
        ap (λ l. (task_at l k).ended) same
            ∙ ap (λ (y : TaskJobs). y.ended) (get_or-set_same s.sched k (with_job (task_at s.sched k)) no_task r.0),
      )

    settles : (m : Mode) → s.core.mode ≡ m → Turning now s.sched s.core.window s.core.debt m → ((k : ℕ) → m ≡ Running k → served ≡ Some k) → Settled served s.sched (settle m s)
    settles Point e h sv = absurd h
    settles (Switching k left) e h sv = record {
      holds = record { tasks = later; mode = subst (InMode s.now s.sched s.core.window s.core.debt) (sym e) (subst (λ i. IsReady i s.sched k) (sym is) (ready_next now s.sched k t h.0), h.1) };
      ends = λ j. inl refl;
      rest = λ until x y. absurd (let z : Switching k left ≡ Point = sym e ∙ x in cc);
    }
    settles (Running k) e h sv =
        cond_both (is_paid s.core.debt && ends_before s.now s.core.interval s.core.mark) (close_interval k s) s (Settled served s.sched)
        (λ over.
        let parts : (is_paid s.core.debt ≡ true) × (ends_before s.now s.core.interval s.core.mark ≡ true) = and_parts (is_paid s.core.debt) (ends_before s.now s.core.interval s.core.mark) over in
        closes_by s.core.mark k refl h (sv k refl) (paid_wants s.core.debt parts.0) (sched_after s.core.mark k s.sched) refl (close_interval k s) refl refl refl)
        (λ _. record {
          holds = record { tasks = later; mode = subst (InMode s.now s.sched s.core.window s.core.debt) (sym e) (subst (λ i. IsReady i s.sched k) (sym is) (ready_next now s.sched k t h)) };
          ends = λ j. inl refl;
          rest = λ until x y. absurd (let z : Running k ≡ Point = sym e ∙ x in cc);
        })
    settles (Idle until) e h sv =
        cond_both (ltb s.now until) s (record s { core = at_point s.core }) (Settled served s.sched)
        (λ lt. record {
          holds = record {
            tasks = later;
            mode = subst (InMode s.now s.sched s.core.window s.core.debt) (sym e)
                (record { begun = h.0.0; before = omega (arith, h.0.1, is); rested = h.0.2; more = ltb-true s.now until lt; start = omega (arith, h.2, is); close = h.3 }, h.1);
          };
          ends = λ j. inl refl;
          rest = λ u x y. absurd (let z : Idle until ≡ Point = sym e ∙ x in cc);
        })
        (λ past. record {
          holds = record { tasks = later; mode = h.1 };
          ends = λ j. inl refl;
          rest = λ u x y.
              let w : Waited until s.sched h.0.0 = waited h.0.0 until s.now s.sched later h.0.2 in
              absurd (no_rest s.now s.sched w.task u (waited_ready until h.0.0 s.now s.sched later w (ltb-false s.now until past)) y);
        })

  -- ---- a cycle

  three_false : (a b c : Bool) → (a || b || c) ≡ false → a ≡ false
  three_false true b c h = absurd (let x : true ≡ false = h in cc)
  three_false false b c h = refl

  not_done : (s : MachineState) → is_over s ≡ false → s.core.mode ≡ Point → choice s.now s.sched ≡ Finished → ⊥
  not_done s on e f =
      let x : is_finished s ≡ false = three_false (is_finished s) (is_some s.trapped) (is_full s) on in
      let y : is_finished s ≡ true = ap (is_finished_in s.now s.sched) e ∙ ap is_finish f in
      (let z : true ≡ false = sym y ∙ x in cc)

  -- it traps, or the next state holds
  module _ (rule : ReplacementRule) (requests : List Request) (s : MachineState) (on : is_over s ≡ false) (h : Holds s) where
    abbrev b : Turned
    b = bus_at (arrivals_at requests s).gates s

    abbrev j : MachineState
    j = joined (arrivals_at requests s) b (core_at rule p b s) s

    abbrev pub Next : MachineState → Type 0
    Next u = ((is_some u.trapped ≡ true) × ((k : ℕ) → EndsOne (serves_of s) s.sched u.sched k)) ⊎ Settled (serves_of s) s.sched u

    turned : is_some (core_at rule p b s).trapped ≡ false → Turns s.now s.sched s.core.mode (core_at rule p b s).core
    turned u =
        turn_turns rule s.now s.sched s.core.mode (move_at p b s) (with_memory b.memory s.work) s.core (with_clash b.turn.clash s.log.counts)
        (turns s.now b.turn.core s.sched (with_memory b.memory s.work) s.core (not_done s on) h.mode h.tasks (move_at p b s)
        (move_cases p s.now b.turn.core s.sched (with_memory b.memory s.work) s.core)) u

    by_trap : (t : Bool) → is_some (core_at rule p b s).trapped ≡ t → Next (cond (is_some (core_at rule p b s).trapped) j (next_cycle j))
    by_trap true e = subst (λ t. Next (cond t j (next_cycle j))) (sym e) (inl (e, λ k. inl refl))
    by_trap false e =
        let t : Turns s.now s.sched s.core.mode (core_at rule p b s).core = turned e in
        subst (λ t. Next (cond t j (next_cycle j))) (sym e)
        (inr (settles (serves_of s) (with_now j (s.now + 1)) s.now refl h.tasks (core_at rule p b s).core.mode refl t.turning t.serving))

    pub cycle_settles : Next (cycle_of rule p requests s)
    cycle_settles = by_trap (is_some (core_at rule p b s).trapped) refl

  -- ---- a run

  module _ (rule : ReplacementRule) (content : List ℕ) (inputs : List (List ℕ)) (requests : List Request) where
    abbrev run : ℕ → MachineState
    run n = state rule p content inputs requests n

    start_at : (tasks : List TaskRecord) (k : ℕ) →
        task_at (starts_of (map (λ (r : TaskRecord). (r.period, r.jobs)) tasks)) k
        ≡ record { period = (get_or tasks k no_record).period; jobs = (get_or tasks k no_record).jobs; ended = 0 }
    start_at [] k = refl
    start_at (r ∷ rs) zero = refl
    start_at (r ∷ rs) (suc k) = start_at rs k

    start_count : (tasks : List TaskRecord) → length (starts_of (map (λ (r : TaskRecord). (r.period, r.jobs)) tasks)) ≡ length tasks
    start_count [] = refl
    start_count (r ∷ rs) = ap suc (start_count rs)

    pub first_holds : Holds (run 0)
    unfolding cycles_of
    first_holds = record {
      tasks = record {
        count = start_count p.tasks;
        period = λ k lt. ap (λ (t : TaskJobs). t.period) (start_at p.tasks k);
        jobs = λ k lt. ap (λ (t : TaskJobs). t.jobs) (start_at p.tasks k);
        few = λ k lt. let e : (task_at (starts_of (map (λ (r : TaskRecord). (r.period, r.jobs)) p.tasks)) k).ended ≡ 0 = ap (λ (t : TaskJobs). t.ended) (start_at p.tasks k) in omega (arith, e);
      };
      mode = refl;
    }

    -- a trapped state is over
    trapped_over : (s : MachineState) → is_some s.trapped ≡ true → is_over s ≡ true
    trapped_over s e = by (is_finished s) (is_full s) where
      by : (a b : Bool) → (a || is_some s.trapped || b) ≡ true
      by true b = refl
      by false b = ap (λ t. t || b) e

    pub next_settles : (n : ℕ) → (on : is_over (run n) ≡ false) → (h : Holds (run n)) → Next rule requests (run n) on h (run (suc n))
    next_settles n on h = subst (Next rule requests (run n) on h) (sym (goes_is rule p content inputs requests n on)) (cycle_settles rule requests (run n) on h)

    pub run_holds : (n : ℕ) → is_over (run n) ≡ false → Holds (run n)
    run_holds zero on = first_holds
    run_holds (suc n) on =
        let before : is_over (run n) ≡ false = on_before rule p content inputs requests n (suc n) (omega arith) on in
        ⊎_elim (λ (t : (is_some (run (suc n)).trapped ≡ true) × ((k : ℕ) → EndsOne (serves_of (run n)) (run n).sched (run (suc n)).sched k)). absurd
        (let x : true ≡ false = sym (trapped_over (run (suc n)) t.0) ∙ on in cc))
        (λ (s : Settled (serves_of (run n)) (run n).sched (run (suc n))). s.holds)
        (next_settles n before (run_holds n before))

    pub run_ends : (n k : ℕ) → is_over (run n) ≡ false → EndsOne (serves_of (run n)) (run n).sched (run (suc n)).sched k
    run_ends n k on =
        ⊎_elim (λ (t : (is_some (run (suc n)).trapped ≡ true) × ((k : ℕ) → EndsOne (serves_of (run n)) (run n).sched (run (suc n)).sched k)). t.1 k)
        (λ (s : Settled (serves_of (run n)) (run n).sched (run (suc n))). s.ends k)
        (next_settles n on (run_holds n on))

    pub run_rests : (n : ℕ) → is_over (run (suc n)) ≡ false → EndsBeforeRest (run n).sched (run (suc n))
    run_rests n on =
        let before : is_over (run n) ≡ false = on_before rule p content inputs requests n (suc n) (omega arith) on in
        ⊎_elim (λ (t : (is_some (run (suc n)).trapped ≡ true) × ((k : ℕ) → EndsOne (serves_of (run n)) (run n).sched (run (suc n)).sched k)). absurd
        (let x : true ≡ false = sym (trapped_over (run (suc n)) t.0) ∙ on in cc))
        (λ (s : Settled (serves_of (run n)) (run n).sched (run (suc n))). s.rest)
        (next_settles n before (run_holds n before))

    pub first_ended : (k : ℕ) → (task_at (run 0).sched k).ended ≡ 0
    unfolding cycles_of
    first_ended k = ap (λ (t : TaskJobs). t.ended) (start_at p.tasks k)

    -- no idle time is chosen at the start
    pub first_rests : (until : ℕ) → choice (run 0).now (run 0).sched ≡ Rest until → ⊥
    unfolding cycles_of
    first_rests until e =
        let f : Releases 0 (run 0).sched until = rest_releases 0 (run 0).sched until e in
        let x : TaskJobs = task_at (run 0).sched f.task in
        let z : x.ended ≡ 0 = ap (λ (t : TaskJobs). t.ended) (start_at p.tasks f.task) in
        let job : x.ended < x.jobs = ltb-true x.ended x.jobs f.left in
        rest_none 0 (run 0).sched until e f.task (f.there, lt-ltb x.ended (released x 0) (omega (arith, z, job)))

    -- the one who is served has a job that is released
    pub served_ready : (n k : ℕ) → is_over (run n) ≡ false → serves_of (run n) ≡ Some k → IsReady (run n).now (run n).sched k
    served_ready n k on e = by (run n).core.mode (run_holds n on).mode e where
      chosen : (c : Choice) → choice (run n).now (run n).sched ≡ c → chosen_task c ≡ Some k → IsReady (run n).now (run n).sched k
      chosen (Run j) h x = let same : j ≡ k = (let y : Some j ≡ Some k = x in cc) in subst (IsReady (run n).now (run n).sched) same (run_ready (run n).now (run n).sched j h)
      chosen (Rest until) h x = absurd (let y : None ≡ Some k = x in cc)
      chosen Finished h x = absurd (let y : None ≡ Some k = x in cc)

      by : (m : Mode) → InMode (run n).now (run n).sched (run n).core.window (run n).core.debt m → serves_in (run n).now (run n).sched m ≡ Some k → IsReady (run n).now (run n).sched k
      by Point h x = chosen (choice (run n).now (run n).sched) refl x
      by (Switching j left) h x = let same : j ≡ k = (let y : Some j ≡ Some k = x in cc) in subst (IsReady (run n).now (run n).sched) same h.0
      by (Running j) h x = let same : j ≡ k = (let y : Some j ≡ Some k = x in cc) in subst (IsReady (run n).now (run n).sched) same h
      by (Idle until) h x = absurd (let y : None ≡ Some k = x in cc)
