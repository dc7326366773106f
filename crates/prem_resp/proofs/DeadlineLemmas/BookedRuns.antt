-- The accounts of every state of a run.
use Rattle.std.specs.Prelude.{All, is_some, ◌&&◌}
use Rattle.std.proofs.Common.{◌≡◌, ℕ, suc, ◌+◌, ◌-◌, ◌<◌, ◌≤◌, refl, ap, ◌∙◌, sym, subst, arith, cond, ltb, true, false, Bool, Some, None, Option, List, [], length, ◌⊎◌, inl, inr, ⊎_elim}
use Rattle.std.proofs.lemmas.Bool.{and_parts, cases_eq, cond_both}
use Rattle.std.proofs.lemmas.List.{get_or-set_same, get_or-set_other}
use Rattle.std.proofs.lemmas.List.Elements.{All-push}
use Rattle.prem_plant.specs.Ranges.{IsPlant}
use Rattle.prem_plant.specs.Order.Order.{OrderRule, caches_after, cache_misses}
use Rattle.prem_sched.specs.declared.sched.TaskJobs.{TaskJobs}
use Rattle.prem_sched.specs.Schedule.{no_task, task_at, with_job, job_ended}
use Rattle.prem_isa.specs.declared.effect.Change.{Change}
use Rattle.prem_isa.specs.declared.effect.Change.TheVariants.{Stay, Memory, Execute, End, Job}
use Rattle.prem_isa.specs.Decode.{cost_of}
use Rattle.prem_isa.specs.declared.effect.Phase.{Phase}
use Rattle.prem_isa.specs.declared.effect.Phase.TheVariants.{Compatible, Memory as MemoryPhase, Execution}
use Rattle.prem_isa.specs.Plain.{TaskRun, PlainState, Did, did_of, plain_did, plain_run, with_last}
use Rattle.prem_isa.proofs.PlainLaws.{plain_fits}
use Rattle.prem_lru.specs.Entries.{ReplacementRule}
use Rattle.prem_lru.specs.Order.{lines_in}
use Rattle.prem_gate.specs.declared.request.Request.{Request}
use Rattle.prem_gate.specs.Gates.{Turned}
use Rattle.prem_image.specs.declared.image.TaskRecord.{TaskRecord}
use Rattle.prem_cycle.specs.declared.state.Interval.{Interval}
use Rattle.prem_cycle.specs.declared.facts.EndedInterval.{EndedInterval}
use Rattle.prem_cycle.specs.declared.state.Mode.{Mode}
use Rattle.prem_cycle.specs.declared.state.Mode.TheVariants.{Point, Switching, Running, Idle}
use Rattle.prem_cycle.specs.State.{Setup, no_record, record_of, Task, Work, Debt, CoreState, Counts, MachineState, start_of, task_in}
use Rattle.prem_cycle.specs.Issue.{Executes, LineTouch, issued_by, owed_by}
use Rattle.prem_cycle.specs.Core.{is_paid, CoreMove, Passes, Issues, is_predictable, core_issue, core_turn}
use Rattle.prem_cycle.specs.Cycle.{Arrivals, arrivals_at, bus_at, with_memory, with_clash, move_at, core_at, joined, ends_before, ended_interval, sched_after, at_point}
use Rattle.prem_cycle.specs.Cycle.{close_interval, settle, with_now, next_cycle, ticked, cycle_of, is_finished}
use Rattle.prem_cycle.specs.Run.{CycleStep, step_with, memory_of}
use Rattle.prem_cycle.proofs.CoreCases.{move_cases}
use Rattle.prem_cycle.specs.Runs.Position.Issued.{count_of, issued_of, AreOwn, IsRunnable}
use Rattle.prem_cycle.proofs.RunsLemmas.PositionLemmas.Stands.{bump, Stands, Issuing}
use Rattle.prem_cycle.proofs.RunsLemmas.PositionLemmas.Schedules.{Moves as Scheduled}
use Rattle.prem_cycle.proofs.RunsLemmas.PositionLemmas.Turns.{Runs, bump_move, issuing}
use Rattle.prem_cycle.proofs.RunsLemmas.PositionLemmas.Issues.{issuing_did}
use Rattle.prem_cycle.proofs.RunsLemmas.PositionLemmas.Runs.{count_move}
use Rattle.prem_cycle.proofs.RunsLemmas.PositionLemmas.Debts.{total}
use Rattle.prem_cycle.proofs.RunsLemmas.PositionLemmas.Works.{kept_plant}
use Rattle.prem_sound.specs.Script.Script.{lines_of_did, call_of, Script}
use Rattle.prem_sound.specs.Resident.Faultless.{IsPolicy}
use Rattle.prem_sound.proofs.ResidentLemmas.Residents.{Issued, phase_at, begun_at, Resides, Moves}
use Rattle.prem_sound.proofs.ResidentLemmas.Touches.{missed_lines, TouchesLines, issue_touches}
use Rattle.prem_sound.proofs.ResidentLemmas.Counted.{AttemptFits, attempt_fits}
use Rattle.prem_sound.proofs.ResidentLemmas.Keeps.{sets_are, KeepScripts, Keeps}
use Rattle.prem_sound.proofs.ResidentLemmas.Facing.{Meets, Faces, Comes, faces}
use Rattle.prem_sound.proofs.ResidentLemmas.KeptRuns.{Known, own_runs, known_core, meets, coming}
use Rattle.prem_sound.proofs.Lasts.{owed_of, InTime, Clock}
use Rattle.prem_sound.proofs.Lasting.{Lasts, core_clock}
use Rattle.prem_sound.proofs.Timing.{not_finished}
use Rattle.prem_sound.specs.Scopes.Charged.{Scoping, within_scope, scope_by, scope_at as lines_at, charges_by}
use Rattle.prem_sound.proofs.ScopesLemmas.Credits.{Backed, backed_none, Pays, backed_with}
use Rattle.prem_resp.specs.Deadline.Timeline.{serves_in, timeline_of}
use Rattle.prem_resp.specs.declared.busy.load.Load.{Load}
use Rattle.prem_resp.specs.Busy.Schedule.{Tasks, tasks_of, released, released_before, Schedule, served}
use Rattle.prem_resp.proofs.BusyLemmas.Releases.{released_next, released_grows}
use Rattle.prem_resp.specs.Deadline.Deadlines.{AreLoads, LastsWithin}
use Rattle.prem_resp.proofs.DeadlineLemmas.Choosing.{Reads, Since}
use Rattle.prem_resp.proofs.DeadlineLemmas.Accounts.{more, left_of, left_after, left_same, left_other, InStretch, Booked, BookMove, moves_booked, Paid, scope_next, book_issues, book_ends, book_rests}

module _ (rule : ReplacementRule) (order : OrderRule) (passes : ℕ → ℕ) (p : Setup) (content : List ℕ) (inputs : List (List ℕ))
    (requests : List Request) (own : ℕ → ℕ → Bool) (runs : ℕ → TaskRun) (scripts : ℕ → Script) (policy : IsPolicy rule order passes)
    (keep : KeepScripts p passes runs scripts) (q : IsRunnable p content requests) (o : AreOwn p content inputs own runs)
    (periods : All (λ (r : TaskRecord). 1 ≤ r.period) p.tasks) (scopings : ℕ → Scoping) (loads : List Load) (are : AreLoads p runs scripts scopings loads) where
  abbrev IsKnown : (ℕ → ℕ) → MachineState → Type 0
  IsKnown at s = Known rule order passes p content inputs requests own runs scripts policy keep q o at s

  abbrev IsKeeping : (ℕ → ℕ) → MachineState → Type 0
  IsKeeping at s = Keeps rule order passes p own runs scripts policy keep at s

  abbrev IsLasting : (ℕ → ℕ) → MachineState → Type 0
  IsLasting at s = Lasts rule order passes p own runs scripts policy keep at s

  -- ---- the schedule of a run

  abbrev pub tasks : Tasks
  tasks = tasks_of loads (λ k. (record_of p k).jobs)

  abbrev pub timeline : Schedule
  timeline = timeline_of rule p content inputs requests

  abbrev pub start : MachineState
  start = start_of p inputs (memory_of p content)

  abbrev pub at : ℕ → ℕ → ℕ
  at n = issued_of rule p requests n start

  -- what the jobs that aren't over have had
  abbrev pub had : ℕ → ℕ → ℕ
  had n j = served timeline j (timeline.ended j n) n

  abbrev pub BookedAt : ℕ → (ℕ → ℕ) → (ℕ → ℕ) → List (List ℕ) → List TaskJobs → CoreState → Type 0
  BookedAt now h a orders sched c = Booked p.plant (length p.tasks) runs scripts order scopings tasks timeline now h a orders sched c.mode c.interval c.mark c.debt

  pub some_period : (k : ℕ) → k < length p.tasks → 1 ≤ tasks.period k
  some_period k lt = let y : 1 ≤ (record_of p k).period = periods k no_record lt in omega (arith, y, (are.each k lt).period)

  -- a job of a task may have ended in a cycle
  abbrev pub CountsJob : (now : ℕ) (sched sched' : List TaskJobs) (h h' : ℕ → ℕ) → ℕ → Type 0
  CountsJob now sched sched' h h' j =
      (((task_at sched' j).ended ≡ (task_at sched j).ended) × (h' j ≡ h j))
      ⊎ (((task_at sched' j).ended ≡ (task_at sched j).ended + 1) × (h' j ≡ 0) × ((task_at sched j).ended < released_before tasks j now))

  abbrev pub AreWithin : List EndedInterval → Type 0
  AreWithin intervals = All (LastsWithin p.plant loads) intervals

  pub record Settled (h : ℕ → ℕ) (sched : List TaskJobs) (a : ℕ → ℕ) (now : ℕ) (s : MachineState) : Type 0 where
    pub left : ℕ → ℕ
    pub booked : BookedAt s.now left a (lines_in s.work.cache) s.sched s.core
    pub counts : (j : ℕ) → j < length p.tasks → CountsJob now sched s.sched h left j
    pub intervals : AreWithin s.log.intervals

  -- ---- the core's part

  -- an instruction is paid for by what it is charged, and by its scope's credit
  paid_by : (a : ℕ → ℕ) (k : ℕ) (d : Did) (w : Work) (owed credit : ℕ) (ts : List LineTouch) → k < length p.tasks →
      plain_did (runs k) (plain_run (runs k) (a k)) ≡ Some d → 0 < p.plant.sets → length (lines_in w.cache) ≡ p.plant.sets →
      missed_lines ts ≡ cache_misses order p.plant.ways (lines_in w.cache) (lines_of_did p.plant.line d) →
      owed ≡ total (owed_by p.plant ts) + (cost_of d.instr - 1) →
      (d.phase ≡ Compatible → Backed order p.plant (lines_in w.cache) (scope_by (runs k) (scopings k) (a k)) credit) →
      (c : Change) → d.change ≡ c → (ph : Phase) → d.phase ≡ ph →
      Paid p.plant (length p.tasks) runs scripts order scopings tasks timeline 0 (λ j. 0) a (lines_in w.cache) []
      (caches_after order p.plant.ways (lines_in w.cache) (lines_of_did p.plant.line d)) k d owed credit (charges_by p.plant (runs k) (scopings k) (a k) d)
  paid_by a k d w owed credit ts lt did pos count missed owed_is h c ch MemoryPhase ph =
      record {
        spare = 0;
        backed = λ e. absurd (let y : MemoryPhase ≡ Compatible = sym ph ∙ e in cc);
        pays = λ e. absurd (let y : MemoryPhase ≡ Compatible = sym ph ∙ e in cc);
      }
  paid_by a k d w owed credit ts lt did pos count missed owed_is h c ch Execution ph =
      record {
        spare = 0;
        backed = λ e. absurd (let y : Execution ≡ Compatible = sym ph ∙ e in cc);
        pays = λ e. absurd (let y : Execution ≡ Compatible = sym ph ∙ e in cc);
      }
  paid_by a k d w owed credit ts lt did pos count missed owed_is h c ch Compatible ph =
      let y : Pays order p.plant (caches_after order p.plant.ways (lines_in w.cache) (lines_of_did p.plant.line d))
      (lines_at (runs k) (scopings k) (a k)) owed credit (charges_by p.plant (runs k) (scopings k) (a k) d) =
      backed_with order p.plant (lines_in w.cache) (scopings k (a k)) (scope_by (runs k) (scopings k) (a k)) d credit owed ts policy.once pos count
      ((are.each k lt).scoped.within (a k) d did ph) missed owed_is (h ph) in
      let next : scope_by (runs k) (scopings k) (bump k a k) ≡ within_scope d.change (lines_at (runs k) (scopings k) (a k)) =
      scope_next p.plant (length p.tasks) runs scripts order scopings tasks timeline 0 (λ j. 0) a (lines_in w.cache) [] k d did in
      leaves c ch y next where
        leaves : (c : Change) → d.change ≡ c →
            Pays order p.plant (caches_after order p.plant.ways (lines_in w.cache) (lines_of_did p.plant.line d))
            (lines_at (runs k) (scopings k) (a k)) owed credit (charges_by p.plant (runs k) (scopings k) (a k) d) →
            scope_by (runs k) (scopings k) (bump k a k) ≡ within_scope d.change (lines_at (runs k) (scopings k) (a k)) →
            Paid p.plant (length p.tasks) runs scripts order scopings tasks timeline 0 (λ j. 0) a (lines_in w.cache) []
            (caches_after order p.plant.ways (lines_in w.cache) (lines_of_did p.plant.line d)) k d owed credit
            (charges_by p.plant (runs k) (scopings k) (a k) d)
        leaves Stay ch y next = record {
          spare = y.spare;
          backed = λ _. subst (λ ls. Backed order p.plant (caches_after order p.plant.ways (lines_in w.cache) (lines_of_did p.plant.line d))
              ls y.spare) (sym (next ∙ ap (λ q. within_scope q (lines_at (runs k) (scopings k) (a k))) ch)) y.backed;
          pays = λ _. y.pays;
        }
        leaves (Execute t) ch y next =
            record {
              spare = y.spare;
              backed = λ _. subst
                  (λ ls. Backed order p.plant (caches_after order p.plant.ways (lines_in w.cache) (lines_of_did p.plant.line d)) ls y.spare)
                  (sym (next ∙ ap (λ q. within_scope q (lines_at (runs k) (scopings k) (a k))) ch)) y.backed;
              pays = λ _. y.pays;
            }
        leaves Memory ch y next = record {
          spare = 0;
          backed = λ _. subst (λ ls. Backed order p.plant (caches_after order p.plant.ways (lines_in w.cache) (lines_of_did p.plant.line d)) ls 0)
              (sym (next ∙ ap (λ q. within_scope q (lines_at (runs k) (scopings k) (a k))) ch)) (backed_none order p.plant _);
          pays = λ _. omega (arith, y.pays);
        }
        leaves End ch y next = record {
          spare = 0;
          backed = λ _. subst (λ ls. Backed order p.plant (caches_after order p.plant.ways (lines_in w.cache) (lines_of_did p.plant.line d)) ls 0)
              (sym (next ∙ ap (λ q. within_scope q (lines_at (runs k) (scopings k) (a k))) ch)) (backed_none order p.plant _);
          pays = λ _. omega (arith, y.pays);
        }
        leaves Job ch y next = record {
          spare = 0;
          backed = λ _. subst (λ ls. Backed order p.plant (caches_after order p.plant.ways (lines_in w.cache) (lines_of_did p.plant.line d)) ls 0)
              (sym (next ∙ ap (λ q. within_scope q (lines_at (runs k) (scopings k) (a k))) ch)) (backed_none order p.plant _);
          pays = λ _. omega (arith, y.pays);
        }

  -- the phase is that of a compatible interval
  unpredicted : (ph : Phase) → ph ≡ Compatible → is_predictable ph ≡ false
  unpredicted ph e = ap is_predictable e

  turn_booked : (a : ℕ → ℕ) (now : ℕ) (h : ℕ → ℕ) (to : Option ℕ) (sched : List TaskJobs) (m : CoreMove) (w : Work) (c : CoreState) (n : Counts) →
      Stands p own runs a w → Runs p own runs → Scheduled p runs a sched m →
      Moves order p.plant (length p.tasks) runs scripts a (lines_in w.cache) m →
      BookMove p.plant (length p.tasks) runs scripts order scopings tasks timeline now to h a (lines_in w.cache) sched m →
      BookedAt (now + 1) (more to h) (bump_move m a) (lines_in (core_turn rule p now m w c n).work.cache) sched (core_turn rule p now m w c n).core
  turn_booked a now h to sched (Passes c') w c n s rs j r b = b
  turn_booked a now h to sched (Issues k i) w c n s rs j r b =
      let lt : k < length p.tasks = j.unfinished.bound in
      let x : Issuing p (own k) (runs k) (a k) k w = issuing p own runs a w k rs s j.unfinished in
      let t : Task = task_in w k in
      let did : plain_did (runs k) (plain_run (runs k) (a k)) ≡ Some (did_of t.pc t.phase x.instr x.effect) = issuing_did p (own k) runs a k w j.unfinished (s.each k lt) x in
      let d : Did = did_of t.pc t.phase x.instr x.effect in
      let ts : List LineTouch = (issued_by rule p k x.effect w).touches in
      let debt : Debt = record { transactions = owed_by p.plant ts; begun = false; cost = cost_of x.instr - 1 } in
      let fits : AttemptFits (runs k).size t x.effect =
      attempt_fits (runs k).target (runs k).size (plain_run (runs k) (a k)).task.view t x.instr x.effect
      (plain_fits (runs k) (rs.is k lt).fits (a k)).task.bytes x.alone in
      let touches : TouchesLines order p.plant.ways w.cache (lines_of_did p.plant.line d) (issued_by rule p k x.effect w) =
      issue_touches rule order policy.moves p k x.effect w policy.keeps s.kept (subst (λ m. t.pc + 4 ≤ m) (rs.is k lt).size fits.within) in
      let is : IsPlant p.plant = kept_plant p w.cache w.memory s.kept in
      let some : 1 ≤ p.plant.sets = is.sets.0 in
      let same : d.phase ≡ phase_at runs a k = ap (λ (q : PlainState). q.task.phase) (s.each k lt).same in
      let paid : Paid p.plant (length p.tasks) runs scripts order scopings tasks timeline 0 (λ j. 0) a (lines_in w.cache) []
      (caches_after order p.plant.ways (lines_in w.cache) (lines_of_did p.plant.line d)) k d (owed_of debt) b.1.credit
      (charges_by p.plant (runs k) (scopings k) (a k) d) =
      paid_by a k d w (owed_of debt) b.1.credit ts lt did (omega (arith, some)) (sets_are rule order passes p own runs scripts policy keep w s.kept) touches.misses_are refl
      (λ e. b.1.backed (sym r.goes.kind ∙ unpredicted (phase_at runs a k) (sym same ∙ e))) d.change refl d.phase refl in
      subst (λ e. BookedAt (now + 1) (more to h) (bump k a) (lines_in (core_issue rule p now k i e w c n).work.cache) sched (core_issue rule p now k i e w c n).core) (sym (x.behind rule policy.keeps))
      (subst (λ e. BookedAt (now + 1) (more e h) (bump k a) (lines_in (core_issue rule p now k i (Executes x.instr x.effect) w c n).work.cache) sched
      (core_issue rule p now k i (Executes x.instr x.effect) w c n).core) (sym b.0)
      (subst (λ l. BookedAt (now + 1) (more (Some k) h) (bump k a) l sched (core_issue rule p now k i (Executes x.instr x.effect) w c n).core) (sym touches.lines_are)
      (book_issues p.plant (length p.tasks) runs scripts order scopings tasks timeline now h a (lines_in w.cache) sched
      (caches_after order p.plant.ways (lines_in w.cache) (lines_of_did p.plant.line d)) k i d debt lt did r (are.each k lt).charged b.1
      (record { spare = paid.spare; backed = paid.backed; pays = paid.pays }))))

  -- ---- the end of a cycle

  stays : (h : ℕ → ℕ) (sched : List TaskJobs) (now : ℕ) (j : ℕ) → CountsJob now sched sched h h j
  stays h sched now j = inl (refl, refl)

  -- a job that ends is one that was released
  was_released : (now k : ℕ) (sched : List TaskJobs) → Since tasks timeline (length p.tasks) now sched k → (task_at sched k).ended < released_before tasks k now
  was_released now k sched c =
      let some : 1 ≤ tasks.period k = some_period k c.there in
      let e : released_before tasks k (suc c.chosen) ≡ released tasks k c.chosen = released_next tasks k c.chosen some in
      let g : released_before tasks k (suc c.chosen) ≤ released_before tasks k now = released_grows tasks k (suc c.chosen) now some (omega (arith, c.before)) in
      omega (arith, c.ready, c.same k c.there, e, g)

  same_left : (mark : Change) (k j : ℕ) (h : ℕ → ℕ) → ((n : ℕ) → left_of mark n ≡ n) → left_after mark k h j ≡ h j
  same_left mark k j h same =
      ⊎_elim (λ (e : j ≡ k). subst (λ n. left_after mark k h n ≡ h n) (sym e) (left_same mark k h ∙ same (h k)))
      (λ (ne : j ≡ k → ⊥). left_other mark k j h ne) (cases_eq j k)

  closed : (mark : Change) (k : ℕ) (h : ℕ → ℕ) (now : ℕ) (sched : List TaskJobs) → length sched ≡ length p.tasks →
      Since tasks timeline (length p.tasks) now sched k → (j : ℕ) → j < length p.tasks →
      CountsJob now sched (sched_after mark k sched) h (left_after mark k h) j
  closed Stay k h now sched count c j lt = inl (refl, same_left Stay k j h (λ n. refl))
  closed Memory k h now sched count c j lt = inl (refl, same_left Memory k j h (λ n. refl))
  closed (Execute stated) k h now sched count c j lt = inl (refl, same_left (Execute stated) k j h (λ n. refl))
  closed End k h now sched count c j lt = inl (refl, same_left End k j h (λ n. refl))
  closed Job k h now sched count c j lt =
      let t : TaskJobs = with_job (task_at sched k) in
      let there : k < length sched = omega (arith, c.there, count) in
      let same : task_at (job_ended k sched) k ≡ t = get_or-set_same sched k t no_task there in
      ⊎_elim (λ (e : j ≡ k).
      subst (λ n. CountsJob now sched (job_ended k sched) h (left_after Job k h) n) (sym e)
      (inr (ap (λ (y : TaskJobs). y.ended) same, left_same Job k h, was_released now k sched c)))
      (λ (ne : j ≡ k → ⊥). inl (ap (λ (y : TaskJobs). y.ended) (get_or-set_other sched k j t no_task ne), left_other Job k j h ne))
      (cases_eq j k)

  -- an interval that ends has lasted no longer than the longest one
  ends_within : (now k : ℕ) (i : Interval) (mark : Change) (debt : Debt) (phase : Phase) (stated credit first stretch : ℕ) (ds : List Did) →
      first ≡ i.first → ends_before now i mark ≡ true → Issued mark phase stated ds i →
      (i.predictable ≡ false → InStretch p.plant (length p.tasks) runs scripts order scopings tasks timeline mark now (owed_of debt)
      credit first stretch (tasks.longest k)) → p.plant.switch ≤ tasks.longest k → LastsWithin p.plant loads (ended_interval now k i)
  ends_within now k i Stay debt phase stated credit first stretch ds f e x pace least none = absurd (let z : false ≡ true = e in cc)
  ends_within now k i (Execute l) debt phase stated credit first stretch ds f e x pace least none = absurd (let z : false ≡ true = e in cc)
  ends_within now k i Memory debt phase stated credit first stretch ds f e x pace least none = omega (arith, pace none, f, least)
  ends_within now k i Job debt phase stated credit first stretch ds f e x pace least none = omega (arith, pace none, f, least)
  ends_within now k i End debt phase stated credit first stretch ds f e x pace least none = absurd (let z : true ≡ false = sym x.0 ∙ none in cc)

  settle_booked : (a : ℕ → ℕ) (h : ℕ → ℕ) (m : Mode) (s : MachineState) → s.core.mode ≡ m → length s.sched ≡ length p.tasks →
      BookedAt s.now h a (lines_in s.work.cache) s.sched s.core →
      Resides order p.plant (length p.tasks) runs scripts a (lines_in s.work.cache) s.core.mode s.core.interval s.core.mark →
      Clock order p.plant (length p.tasks) runs scripts s.now a (lines_in s.work.cache) s.core.mode s.core.interval s.core.mark s.core.debt →
      AreWithin s.log.intervals → Settled h s.sched a s.now (settle m s)
  settle_booked a h Point s e count b r c z = record { left = h; booked = b; counts = λ j lt. stays h s.sched s.now j; intervals = z }
  settle_booked a h (Switching k left) s e count b r c z = record { left = h; booked = b; counts = λ j lt. stays h s.sched s.now j; intervals = z }
  settle_booked a h (Running k) s e count b r c z =
      cond_both (is_paid s.core.debt && ends_before s.now s.core.interval s.core.mark) (close_interval k s) s (Settled h s.sched a s.now)
      (λ over.
      let parts : (is_paid s.core.debt ≡ true) × (ends_before s.now s.core.interval s.core.mark ≡ true) = and_parts (is_paid s.core.debt) (ends_before s.now s.core.interval s.core.mark) over in
      let t : Booked p.plant (length p.tasks) runs scripts order scopings tasks timeline s.now h a (lines_in s.work.cache) s.sched (Running k) s.core.interval s.core.mark s.core.debt =
      subst (λ m. Booked p.plant (length p.tasks) runs scripts order scopings tasks timeline s.now h a (lines_in s.work.cache) s.sched m s.core.interval s.core.mark s.core.debt) e b in
      record {
        left = left_after s.core.mark k h;
        booked = book_ends p.plant (length p.tasks) runs scripts order scopings tasks timeline s.now h a (lines_in s.work.cache)
            s.sched k s.core.interval s.core.mark s.core.debt (sched_after s.core.mark k s.sched) parts.0 parts.1 (r.runs_in k e).issued
            (λ pred mark. let y : s.now + owed_of s.core.debt ≤ s.core.interval.first + s.core.interval.stated =
            subst (λ x. InTime order p.plant x s.now (owed_of s.core.debt) s.core.interval (begun_at runs a k).steps (lines_in s.work.cache)) mark
            (c.in_time k e pred) in omega arith)
            t;
        counts = closed s.core.mark k h s.now s.sched count t.current.since;
        intervals = All-push (LastsWithin p.plant loads) s.log.intervals (ended_interval s.now k s.core.interval) z
            (ends_within s.now k s.core.interval s.core.mark s.core.debt (phase_at runs a k)
            (call_of (scripts k) (begun_at runs a k)).stated t.current.credit s.core.interval.first _ (begun_at runs a k).steps refl parts.1
            (r.runs_in k e).issued t.current.pace (omega (arith, (are.each k t.current.since.there).charged.calls 0)));
      })
      (λ _. record { left = h; booked = b; counts = λ j lt. stays h s.sched s.now j; intervals = z })
  settle_booked a h (Idle until) s e count b r c z =
      cond_both (ltb s.now until) s (record s { core = at_point s.core }) (Settled h s.sched a s.now)
      (λ _. record { left = h; booked = b; counts = λ j lt. stays h s.sched s.now j; intervals = z })
      (λ _. record {
        left = h;
        booked = book_rests p.plant (length p.tasks) runs scripts order scopings tasks timeline s.now h a (lines_in s.work.cache) s.sched until s.core.interval s.core.mark s.core.debt s.sched
            (subst (λ m. Booked p.plant (length p.tasks) runs scripts order scopings tasks timeline s.now h a (lines_in s.work.cache) s.sched m s.core.interval s.core.mark s.core.debt) e b);
        counts = λ j lt. stays h s.sched s.now j;
        intervals = z;
      })

  ticked_booked : (a : ℕ → ℕ) (h : ℕ → ℕ) (s : MachineState) → s.trapped ≡ None → length s.sched ≡ length p.tasks →
      BookedAt (s.now + 1) h a (lines_in s.work.cache) s.sched s.core →
      Resides order p.plant (length p.tasks) runs scripts a (lines_in s.work.cache) s.core.mode s.core.interval s.core.mark →
      Clock order p.plant (length p.tasks) runs scripts (s.now + 1) a (lines_in s.work.cache) s.core.mode s.core.interval s.core.mark s.core.debt →
      AreWithin s.log.intervals → Settled h s.sched a (s.now + 1) (ticked s)
  ticked_booked a h s u count b r c z =
      subst (λ t. Settled h s.sched a (s.now + 1) (cond (is_some t) s (next_cycle s))) (sym u)
      (settle_booked a h s.core.mode (with_now s (s.now + 1)) refl count b r c z)

  -- ---- a cycle

  -- a compatible interval ends with no `pm.end`
  no_end : (a : ℕ → ℕ) (s : MachineState) →
      Resides order p.plant (length p.tasks) runs scripts a (lines_in s.work.cache) s.core.mode s.core.interval s.core.mark → (k : ℕ) →
      s.core.mode ≡ Running k → s.core.interval.predictable ≡ false → s.core.mark ≡ End → ⊥
  no_end a s r k e none mark =
      let x : Issued End (phase_at runs a k) (call_of (scripts k) (begun_at runs a k)).stated (begun_at runs a k).steps s.core.interval =
      subst (λ c. Issued c (phase_at runs a k) (call_of (scripts k) (begun_at runs a k)).stated (begun_at runs a k).steps s.core.interval) mark (r.runs_in k e).issued in
      let y : true ≡ false = sym x.0 ∙ none in cc

  pub cycle_booked : (s : MachineState) (xs : List CycleStep) (h : ℕ → ℕ) → is_finished s ≡ false → IsKnown (λ k. count_of k xs) s →
      IsKeeping (λ k. count_of k xs) s → IsLasting (λ k. count_of k xs) s → Reads tasks timeline (length p.tasks) s.now s.sched →
      BookedAt s.now h (λ k. count_of k xs) (lines_in s.work.cache) s.sched s.core → AreWithin s.log.intervals →
      Settled (more (serves_in s.now s.sched s.core.mode) h) s.sched
      (λ k. count_of k (with_last (step_with rule p (bus_at (arrivals_at requests s).gates s) s) xs)) (s.now + 1) (cycle_of rule p requests s)
  cycle_booked s xs h go kn ke l reads t z =
      let a : ℕ → ℕ = λ j. count_of j xs in
      let ar : Arrivals = arrivals_at requests s in
      let b : Turned = bus_at ar.gates s in
      let w : Work = with_memory b.memory s.work in
      let n : Counts = with_clash b.turn.clash s.log.counts in
      let rs : Runs p own runs = own_runs rule order passes p content inputs requests own runs scripts policy keep q o in
      let f : Meets p own b (move_at p b s) s = meets rule order passes p content inputs requests own runs scripts policy keep q o a s kn ke in
      let fa : Faces rule order passes p own runs scripts policy keep rs a b (move_at p b s) s =
      faces rule order passes p own runs scripts policy keep rs a b (move_at p b s) s (known_core rule order passes p content inputs requests own runs scripts policy keep q o a s kn) ke f in
      let bm : BookMove p.plant (length p.tasks) runs scripts order scopings tasks timeline s.now (serves_in s.now s.sched s.core.mode) h a (lines_in w.cache) s.sched (move_at p b s) =
      moves_booked p.plant (length p.tasks) runs scripts order scopings tasks timeline s.now h a (lines_in w.cache) s.sched p b.turn.core w s.core
      (move_at p b s) refl (move_cases p s.now b.turn.core s.sched w s.core) l.clock.positive
      f.serves l.goes_on (no_end a s ke.resides) (not_finished s go) reads t in
      let c : Comes rule order passes p own runs scripts policy keep rs a ar b (move_at p b s) s = coming rule order passes p content inputs requests own runs scripts policy keep q o a s kn ke in
      let tb : BookedAt (s.now + 1) (more (serves_in s.now s.sched s.core.mode) h) (bump_move (move_at p b s) a) (lines_in (core_at rule p b s).work.cache) s.sched (core_at rule p b s).core =
      turn_booked a s.now h (serves_in s.now s.sched s.core.mode) s.sched (move_at p b s) w s.core n fa.stands rs fa.scheduled fa.moves_to bm in
      subst (λ f. Settled (more (serves_in s.now s.sched s.core.mode) h) s.sched f (s.now + 1) (cycle_of rule p requests s)) (λ x i. count_move rule p s.now w (move_at p b s) xs i c.issued x)
      (ticked_booked (bump_move (move_at p b s) a) (more (serves_in s.now s.sched s.core.mode) h) (joined ar b (core_at rule p b s) s) c.position.untrapped reads.count tb c.turn.resides
      (core_clock rule order passes p own runs scripts policy keep rs a b (move_at p b s) s ke l f fa) z)
