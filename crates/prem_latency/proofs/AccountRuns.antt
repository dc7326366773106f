-- The accounts of a task in every state of a run, and so no job keeps the bus closed for longer than its scopes are charged.
use Rattle.std.specs.Prelude.{All, is_some, ◌&&◌, not}
use Rattle.std.proofs.Common.{◌≡◌, ℕ, zero, suc, ◌+◌, ◌-◌, ◌<◌, ◌≤◌, refl, ap, ◌∙◌, sym, subst, arith, cond, eqb, ltb, true, false, Bool, Some, None, Option, List, length, ◌⊎◌, inl, inr, ⊎_elim, ◌*◌}
use Rattle.std.proofs.lemmas.Bool.{and_parts, cases_eq, cases_lt, cases_Bool, cond_both, eq-eqb, ne_eqb}
use Rattle.std.proofs.lemmas.List.{get_or-set_same, get_or-set_other}
use Rattle.prem_plant.specs.Ranges.{IsPlant}
use Rattle.prem_plant.specs.Order.Order.{OrderRule, HaveRoom, cache_misses, caches_after, AllIn, CacheMissesOnce}
use Rattle.prem_sched.specs.declared.sched.TaskJobs.{TaskJobs}
use Rattle.prem_sched.specs.Schedule.{no_task, task_at, with_job, IsReady, choice, run_or, rest, first_ready, least_release, IsDone}
use Rattle.prem_isa.specs.declared.effect.Phase.{Phase}
use Rattle.prem_isa.specs.declared.effect.Phase.TheVariants.{Compatible, Memory as MemoryPhase, Execution}
use Rattle.prem_isa.specs.declared.effect.Change.{Change}
use Rattle.prem_isa.specs.declared.effect.Change.TheVariants.{Stay, Memory, Execute, End, Job}
use Rattle.prem_isa.specs.Bounds.{IsLawful}
use Rattle.prem_isa.specs.Decode.{cost_of}
use Rattle.prem_isa.specs.Plain.{TaskRun, Did, did_of, plain_did, plain_run, plain_steps, with_last}
use Rattle.prem_lru.specs.Entries.{ReplacementRule}
use Rattle.prem_lru.specs.Order.{lines_in}
use Rattle.prem_gate.specs.declared.request.Request.{Request}
use Rattle.prem_gate.specs.Gates.{Turned, wants}
use Rattle.prem_image.specs.declared.image.TaskRecord.{TaskRecord}
use Rattle.prem_cycle.specs.declared.state.Mode.{Mode}
use Rattle.prem_cycle.specs.declared.state.Mode.TheVariants.{Point, Switching, Running, Idle}
use Rattle.prem_cycle.specs.declared.state.Interval.{Interval}
use Rattle.prem_cycle.specs.State.{Setup, record_of, Task, Work, Debt, CoreState, Counts, MachineState, start_of, task_in}
use Rattle.prem_cycle.specs.Issue.{issued_by, owed_by, Executes, LineTouch}
use Rattle.prem_cycle.specs.Core.{want_of, is_paid, CoreMove, Passes, Issues, is_predictable, stated_after, window_after, core_issue, core_turn}
use Rattle.prem_cycle.specs.Cycle.{Arrivals, arrivals_at, bus_at, with_memory, with_clash, move_at, core_at, joined, ends_before, sched_after, at_point, close_interval, settle}
use Rattle.prem_cycle.specs.Cycle.{with_now, next_cycle, ticked, cycle_of, is_finished, is_full, is_over}
use Rattle.prem_cycle.specs.Run.{CycleStep, step_with, memory_of, cycles_of, steps_of}
use Rattle.prem_cycle.proofs.CoreCases.{move_cases, Closes}
use Rattle.prem_cycle.specs.Runs.Position.Issued.{count_of, issued_of, AreOwn, IsRunnable}
use Rattle.prem_cycle.proofs.RunsLemmas.PositionLemmas.Stands.{bump, bump_same, bump_other, Stands, Issuing}
use Rattle.prem_cycle.proofs.RunsLemmas.PositionLemmas.Schedules.{Moves as Scheduled}
use Rattle.prem_cycle.proofs.RunsLemmas.PositionLemmas.Turns.{Runs, bump_move, issuing}
use Rattle.prem_cycle.proofs.RunsLemmas.PositionLemmas.Issues.{issuing_did}
use Rattle.prem_cycle.proofs.RunsLemmas.PositionLemmas.Runs.{count_move}
use Rattle.prem_cycle.proofs.RunsLemmas.PositionLemmas.Works.{kept_plant}
use Rattle.prem_cycle.proofs.RunsLemmas.PositionLemmas.Debts.{total}
use Rattle.prem_sound.specs.Script.Script.{begun_by, Call, call_of, Opens, Script, lines_of_did, lines_of_dids, cost_of_dids}
use Rattle.prem_sound.specs.Resident.Faultless.{IsPolicy}
use Rattle.prem_sound.proofs.ScriptLemmas.Begins.{Executed, executed, did_lawful}
use Rattle.prem_sound.proofs.ResidentLemmas.Residents.{Issued, phase_at, begun_at, Resides, Moves}
use Rattle.prem_sound.proofs.ResidentLemmas.Keeps.{sets_are, KeepScripts, Keeps}
use Rattle.prem_sound.proofs.ResidentLemmas.Facing.{Meets, Faces, Comes, faces}
use Rattle.prem_sound.proofs.ResidentLemmas.KeptRuns.{Known, own_runs, known_core, known, run_keeps, meets, coming}
use Rattle.prem_sound.proofs.Paces.{in_script, Paced}
use Rattle.prem_sound.proofs.Lasts.{owed_of, InTime, Clock, ClockMove, clock_moves}
use Rattle.prem_sound.proofs.Lasting.{Lasts, core_clock}
use Rattle.prem_sound.proofs.LastingRuns.{run_lasts}
use Rattle.prem_sound.proofs.Spends.{kept_by}
use Rattle.prem_sound.proofs.Timing.{not_finished, first_no}
use Rattle.prem_sound.specs.Script.Scripts.{limit_of, AreScripts}
use Rattle.prem_isa.proofs.PlainLaws.{plain_fits}
use Rattle.prem_sound.proofs.ResidentLemmas.Touches.{missed_lines, TouchesLines, issue_touches}
use Rattle.prem_sound.proofs.ResidentLemmas.Counted.{AttemptFits, attempt_fits}
use Rattle.prem_sound.specs.Scopes.Charged.{Scoping, within_scope, scope_by, scope_at as lines_at, IsScoped, charges_by}
use Rattle.prem_sound.proofs.ScopesLemmas.Credits.{Backed, backed_none, Pays, backed_with}
use Rattle.prem_resp.specs.Busy.Schedule.{one_if, is_task}
use Rattle.prem_latency.specs.Served.{serves_of, ended_of, works_for, is_closed, closed_for}
use Rattle.prem_resp.specs.Deadline.Timeline.{serves_in}
use Rattle.prem_latency.specs.Closed.{IsOpened, short_of, closed_charged, IsClosedBy, JobsKeepClosedByCharges}
use Rattle.prem_latency.proofs.Steps.{state, stays_is}
use Rattle.prem_latency.proofs.Scheduled.{InMode, Holds, run_holds, served_ready, some_period, ready_means}
use Rattle.prem_latency.proofs.Accounts.{counts, shut_ends, shut_job}
use Rattle.prem_latency.proofs.AccountMoves.{short, call_now, stated_now, phase_now, job_now, Held, InRun, Shuts, ShutIssue, ShutMove, Paid, scope_next, moves_shut, issues_shut}
use Rattle.std.proofs.lemmas.Nat.{mul-le}
use Rattle.prem_plant.specs.declared.plant.Plant.{Plant}
use Rattle.prem_plant.proofs.OrderLemmas.Lift.{length-caches_after, few_misses}
use Rattle.prem_sched.specs.declared.sched.Choice.TheVariants.{Run, Idle as Rest, Finished}
use Rattle.prem_sched.proofs.Choices.{least_none}
use Rattle.prem_sound.specs.Sound.{IsRun}
use Rattle.prem_sound.proofs.Finishing.{scripts_finish}
use Rattle.prem_cycle.proofs.RunsLemmas.PositionLemmas.Finishes.{finished_point}

-- ---- when a call opens

-- an interval's time, where its instructions and a fill and a write back for each member are at most so many cycles
pub opened_by : (order : OrderRule) (plant : Plant) (now begin most : ℕ) (c : Call) (ds : List Did) (orders : List (List ℕ)) → CacheMissesOnce order →
    0 < length orders → HaveRoom (length orders) plant.ways c.members → AllIn c.members (lines_of_dids plant.line ds) →
    cost_of_dids ds + length c.members * (plant.fill + plant.back) ≤ most → Paced order plant now 0 begin ds orders → now ≤ begin + most
opened_by order plant now begin most c ds orders once pos room within le h =
    let xs : List ℕ = lines_of_dids plant.line ds in
    let f : ℕ = plant.fill + plant.back in
    let m : ℕ = length (cache_misses order plant.ways h.first xs) in
    let same : length h.first ≡ length orders = sym (length-caches_after order plant.ways xs h.first) ∙ ap length (sym h.orders_are) in
    let few : m ≤ length c.members = few_misses order once plant.ways h.first c.members xs (subst (λ n. 0 < n) (sym same) pos) (subst (λ n. HaveRoom n plant.ways c.members) (sym same) room) within in
    let less : m * f ≤ length c.members * f = mul-le m f (length c.members) f few (omega arith) in
    sum now begin (cost_of_dids ds) (m * f) (length c.members * f) most less le h.time where
      sum : (t begin c a b s : ℕ) → a ≤ b → c + b ≤ s → t + 0 ≤ begin + c + a → t ≤ begin + s
      sum t begin c a b s x y h = omega (arith, x, y, h)

module _ (rule : ReplacementRule) (order : OrderRule) (passes : ℕ → ℕ) (p : Setup) (content : List ℕ) (inputs : List (List ℕ))
    (requests : List Request) (own : ℕ → ℕ → Bool) (runs : ℕ → TaskRun) (scripts : ℕ → Script) (policy : IsPolicy rule order passes)
    (keep : KeepScripts p passes runs scripts) (q : IsRunnable p content requests) (o : AreOwn p content inputs own runs)
    (periods : All (λ (r : TaskRecord). 1 ≤ r.period) p.tasks)
    (scoping : Scoping) (opens : ℕ → ℕ) (longest most k : ℕ) (there : k < length p.tasks) (some : 1 ≤ longest)
    (scoped : IsScoped p.plant (runs k) scoping) (opened : IsOpened p.plant (runs k) (scripts k) opens)
    (few : IsClosedBy p.plant (runs k) (short_of (scripts k) opens longest) (charges_by p.plant (runs k) scoping) most) where
  abbrev states : ℕ → MachineState
  states n = state rule p content inputs requests n

  abbrev start : MachineState
  start = start_of p inputs (memory_of p content)

  abbrev at : ℕ → ℕ → ℕ
  at n = issued_of rule p requests n start

  abbrev IsKnown : (ℕ → ℕ) → MachineState → Type 0
  IsKnown a s = Known rule order passes p content inputs requests own runs scripts policy keep q o a s

  abbrev IsKeeping : (ℕ → ℕ) → MachineState → Type 0
  IsKeeping a s = Keeps rule order passes p own runs scripts policy keep a s

  abbrev IsLasting : (ℕ → ℕ) → MachineState → Type 0
  IsLasting a s = Lasts rule order passes p own runs scripts policy keep a s

  abbrev ShutsAt : (now had a : ℕ) → List (List ℕ) → CoreState → Type 0
  ShutsAt now had a orders c = Shuts p.plant (runs k) (scripts k) order scoping opens longest most k now had a orders c.window c.mode c.interval c.mark c.debt

  abbrev IsHeld : (had a : ℕ) → Type 0
  IsHeld had a = Held p.plant (runs k) (scripts k) order scoping opens longest most k had a

  -- ---- an instruction

  abbrev call : (a : ℕ → ℕ) → Call
  call a = call_of (scripts k) (begun_at runs a k)

  opens_stated : (c : Call) (ds : List Did) (ch : Change) (l : ℕ) → ch ≡ Execute l → Opens p.plant passes c ds ch → l ≡ c.stated
  opens_stated c ds ch l e h = (subst (Opens p.plant passes c ds) e h).0

  exec_predictable : (ph : Phase) (ch : Change) (l : ℕ) → ch ≡ Execute l → IsLawful ph ch → is_predictable ph ≡ true
  exec_predictable ph ch l e h = ap is_predictable (subst (IsLawful ph) e h)

  -- an instruction is paid for by what it is charged, and by its scope's credit
  abbrev PaidBy : (now had : ℕ) (sched : List TaskJobs) (a : ℕ → ℕ) (w : Work) (d : Did) (owed credit : ℕ) → Type 0
  PaidBy now had sched a w d owed credit =
      Paid p.plant (runs k) (scripts k) order scoping opens longest most k now had (a k) (lines_in w.cache) sched
      (caches_after order p.plant.ways (lines_in w.cache) (lines_of_did p.plant.line d)) d owed credit (charges_by p.plant (runs k) scoping (a k) d)

  paid_by : (now had : ℕ) (sched : List TaskJobs) (a : ℕ → ℕ) (d : Did) (w : Work) (owed credit : ℕ) (ts : List LineTouch) →
      plain_did (runs k) (plain_run (runs k) (a k)) ≡ Some d → 0 < p.plant.sets → length (lines_in w.cache) ≡ p.plant.sets →
      missed_lines ts ≡ cache_misses order p.plant.ways (lines_in w.cache) (lines_of_did p.plant.line d) →
      owed ≡ total (owed_by p.plant ts) + (cost_of d.instr - 1) →
      (d.phase ≡ Compatible → Backed order p.plant (lines_in w.cache) (scope_by (runs k) scoping (a k)) credit) →
      (c : Change) → d.change ≡ c → (ph : Phase) → d.phase ≡ ph → PaidBy now had sched a w d owed credit
  paid_by now had sched a d w owed credit ts did pos count missed owed_is h c ch MemoryPhase ph =
      record {
        spare = 0;
        backed = λ e. absurd (let y : MemoryPhase ≡ Compatible = sym ph ∙ e in cc);
        pays = λ e. absurd (let y : MemoryPhase ≡ Compatible = sym ph ∙ e in cc);
      }
  paid_by now had sched a d w owed credit ts did pos count missed owed_is h c ch Execution ph =
      record {
        spare = 0;
        backed = λ e. absurd (let y : Execution ≡ Compatible = sym ph ∙ e in cc);
        pays = λ e. absurd (let y : Execution ≡ Compatible = sym ph ∙ e in cc);
      }
  paid_by now had sched a d w owed credit ts did pos count missed owed_is h c ch Compatible ph =
      let y : Pays order p.plant (caches_after order p.plant.ways (lines_in w.cache) (lines_of_did p.plant.line d)) (lines_at (runs k) scoping (a k))
      owed credit (charges_by p.plant (runs k) scoping (a k) d) =
      backed_with order p.plant (lines_in w.cache) (scoping (a k)) (scope_by (runs k) scoping (a k)) d credit owed ts policy.once pos count (scoped.within (a k) d did ph) missed owed_is (h ph) in
      let next : scope_by (runs k) scoping (a k + 1) ≡ within_scope d.change (lines_at (runs k) scoping (a k)) =
      scope_next p.plant (runs k) (scripts k) order scoping opens longest most k now had (a k) (lines_in w.cache) sched d did in
      leaves c ch y next where
        leaves : (c : Change) → d.change ≡ c →
            Pays order p.plant (caches_after order p.plant.ways (lines_in w.cache) (lines_of_did p.plant.line d)) (lines_at (runs k) scoping (a k))
            owed credit (charges_by p.plant (runs k) scoping (a k) d) →
            scope_by (runs k) scoping (a k + 1) ≡ within_scope d.change (lines_at (runs k) scoping (a k)) → PaidBy now had sched a w d owed credit
        leaves Stay ch y next = record {
          spare = y.spare;
          backed = λ _. subst (λ ls. Backed order p.plant (caches_after order p.plant.ways (lines_in w.cache) (lines_of_did p.plant.line d))
              ls y.spare) (sym (next ∙ ap (λ q. within_scope q (lines_at (runs k) scoping (a k))) ch)) y.backed;
          pays = λ _. y.pays;
        }
        leaves (Execute t) ch y next =
            record {
              spare = y.spare;
              backed = λ _. subst
                  (λ ls. Backed order p.plant (caches_after order p.plant.ways (lines_in w.cache) (lines_of_did p.plant.line d)) ls y.spare)
                  (sym (next ∙ ap (λ q. within_scope q (lines_at (runs k) scoping (a k))) ch)) y.backed;
              pays = λ _. y.pays;
            }
        leaves Memory ch y next = record {
          spare = 0;
          backed = λ _. subst (λ ls. Backed order p.plant (caches_after order p.plant.ways (lines_in w.cache) (lines_of_did p.plant.line d)) ls 0)
              (sym (next ∙ ap (λ q. within_scope q (lines_at (runs k) scoping (a k))) ch)) (backed_none order p.plant _);
          pays = λ _. omega (arith, y.pays);
        }
        leaves End ch y next = record {
          spare = 0;
          backed = λ _. subst (λ ls. Backed order p.plant (caches_after order p.plant.ways (lines_in w.cache) (lines_of_did p.plant.line d)) ls 0)
              (sym (next ∙ ap (λ q. within_scope q (lines_at (runs k) scoping (a k))) ch)) (backed_none order p.plant _);
          pays = λ _. omega (arith, y.pays);
        }
        leaves Job ch y next = record {
          spare = 0;
          backed = λ _. subst (λ ls. Backed order p.plant (caches_after order p.plant.ways (lines_in w.cache) (lines_of_did p.plant.line d)) ls 0)
              (sym (next ∙ ap (λ q. within_scope q (lines_at (runs k) scoping (a k))) ch)) (backed_none order p.plant _);
          pays = λ _. omega (arith, y.pays);
        }

  abbrev TurnOf : (a : ℕ → ℕ) (now had : ℕ) (sched : List TaskJobs) (before : Mode) (w : Work) (c : CoreState) (n : Counts) → CoreMove → Type 0
  TurnOf a now had sched before w c n m =
      Scheduled p runs a sched m → Moves order p.plant (length p.tasks) runs scripts a (lines_in w.cache) m → ClockMove order p.plant (length p.tasks) runs scripts now a (lines_in w.cache) m →
      ShutMove p.plant (runs k) (scripts k) order scoping opens longest most k now had (a k) (lines_in w.cache) sched before c.window m →
      ShutsAt (now + 1) (had + counts longest (is_task k (serves_in now sched before)) now c.window) (bump_move m a k)
      (lines_in (core_turn rule p now m w c n).work.cache) (core_turn rule p now m w c n).core

  module _ (a : ℕ → ℕ) (now had : ℕ) (sched : List TaskJobs) (before : Mode) (w : Work) (c : CoreState) (n : Counts) (s : Stands p own runs a w) (rs : Runs p own runs) where
    abbrev cnt : ℕ
    cnt = counts longest (is_task k (serves_in now sched before)) now c.window

    -- the task itself
    turn_own : (i : Interval) → TurnOf a now had sched before w c n (Issues k i)
    turn_own i u r cl b =
        let x : Issuing p (own k) (runs k) (a k) k w = issuing p own runs a w k rs s u.unfinished in
        let t : Task = task_in w k in
        let did : plain_did (runs k) (plain_run (runs k) (a k)) ≡ Some (did_of t.pc t.phase x.instr x.effect) = issuing_did p (own k) runs a k w u.unfinished (s.each k there) x in
        let d : Did = did_of t.pc t.phase x.instr x.effect in
        let ts : List LineTouch = (issued_by rule p k x.effect w).touches in
        let debt : Debt = record { transactions = owed_by p.plant ts; begun = false; cost = cost_of x.instr - 1 } in
        let fits : AttemptFits (runs k).size t x.effect =
        attempt_fits (runs k).target (runs k).size (plain_run (runs k) (a k)).task.view t x.instr x.effect
        (plain_fits (runs k) (rs.is k there).fits (a k)).task.bytes x.alone in
        let touches : TouchesLines order p.plant.ways w.cache (lines_of_did p.plant.line d) (issued_by rule p k x.effect w) =
        issue_touches rule order policy.moves p k x.effect w policy.keeps s.kept (subst (λ m. t.pc + 4 ≤ m) (rs.is k there).size fits.within) in
        let h : ShutIssue p.plant (runs k) (scripts k) order scoping opens longest most k now had (a k) (lines_in w.cache) c.window i = b.1 refl in
        let ex : Executed (runs k) (plain_run (runs k) (a k)) d = executed (runs k) (plain_run (runs k) (a k)) d did in
        let l : IsLawful (phase_at runs a k) d.change = did_lawful (runs k) (plain_run (runs k) (a k)) d ex in
        let same : d.phase ≡ phase_at runs a k = ap (λ (f : Did). f.phase) ex.did_is in
        let sets : length (lines_in w.cache) ≡ p.plant.sets = sets_are rule order passes p own runs scripts policy keep w s.kept in
        let is : IsPlant p.plant = kept_plant p w.cache w.memory s.kept in
        let pos : 1 ≤ p.plant.sets = is.sets.0 in
        let stated : (l : ℕ) → d.change ≡ Execute l → l ≡ stated_now p.plant (runs k) (scripts k) order scoping opens longest most k (a k) =
        (λ v e. opens_stated (call a) (begun_at runs a k).steps d.change v e ((keep k there).steps (a k) d did (ap is_predictable same ∙ exec_predictable (phase_at runs a k) d.change v e l)).opens) in
        let soon : (l : ℕ) → d.change ≡ Execute l → now ≤ i.first + opens ((begun_by (runs k) (a k)).calls - 1) =
        (λ v e. opened_by order p.plant now i.first (opens ((begun_by (runs k) (a k)).calls - 1)) (call a) (begun_at runs a k).steps (lines_in w.cache) policy.once (omega (arith, pos, sets))
        (subst (λ n. HaveRoom n p.plant.ways (call a).members) (sym sets) ((keep k there).room _)) (in_script p.plant passes (runs k) (scripts k) (keep k there) (a k)).within
        (opened.calls (a k) v d did e) (cl (sym r.goes.kind ∙ exec_predictable (phase_at runs a k) d.change v e l))) in
        let paid : Paid p.plant (runs k) (scripts k) order scoping opens longest most k now had (a k) (lines_in w.cache) sched
        (caches_after order p.plant.ways (lines_in w.cache) (lines_of_did p.plant.line d)) d (owed_of debt) h.credit
        (charges_by p.plant (runs k) scoping (a k) d) =
        paid_by now had sched a d w (owed_of debt) h.credit ts did (omega (arith, pos)) sets touches.misses_are refl
        (λ e. h.backed (sym r.goes.kind ∙ ap is_predictable (sym same ∙ e))) d.change refl d.phase refl in
        subst (λ e. ShutsAt (now + 1) (had + cnt) (bump k a k) (lines_in (core_issue rule p now k i e w c n).work.cache) (core_issue rule p now k i e w c n).core) (sym (x.behind rule policy.keeps))
        (subst (λ l. ShutsAt (now + 1) (had + cnt) (bump k a k) l (core_issue rule p now k i (Executes x.instr x.effect) w c n).core) (sym touches.lines_are) (
          λ mine. subst (λ m. InRun p.plant (runs k) (scripts k) order scoping opens longest most k (now + 1) (had + cnt) m
              (caches_after order p.plant.ways (lines_in w.cache) (lines_of_did p.plant.line d)) (window_after d.change now i.first c.window)
              (record i { stated = stated_after d.change i.stated }) d.change debt) (sym (bump_same k a))
              (issues_shut p.plant (runs k) (scripts k) order scoping opens longest most k now had (a k) (lines_in w.cache) sched
              (caches_after order p.plant.ways (lines_in w.cache) (lines_of_did p.plant.line d)) i d debt c.window
              (is_task k (serves_in now sched before)) did r.goes stated soon few h paid),
          λ ne. absurd (ne refl),
        ))

    -- another one
    turn_other : (j : ℕ) (i : Interval) → (j ≡ k → ⊥) → TurnOf a now had sched before w c n (Issues j i)
    turn_other j i ne u r cl b =
        let lt : j < length p.tasks = u.unfinished.bound in
        let x : Issuing p (own j) (runs j) (a j) j w = issuing p own runs a w j rs s u.unfinished in
        let z : is_task k (serves_in now sched before) ≡ false = ap (is_task k) b.0 ∙ ne_eqb k j (λ e. ne (sym e)) in
        let y : cnt ≡ 0 = ap (λ v. counts longest v now c.window) z in
        let m : bump j a k ≡ a k = bump_other j k a (λ e. ne (sym e)) in
        let held : IsHeld had (a k) = b.2 ne in
        subst (λ e. ShutsAt (now + 1) (had + cnt) (bump j a k) (lines_in (core_issue rule p now j i e w c n).work.cache) (core_issue rule p now j i e w c n).core) (sym (x.behind rule policy.keeps))
        (λ mine. absurd (ne mine), λ _. subst (IsHeld (had + cnt)) (sym m) (omega (arith, y, held.0), held.1))

    turn_shut : (m : CoreMove) → TurnOf a now had sched before w c n m
    turn_shut (Passes c') u r cl b = b
    turn_shut (Issues j i) u r cl b =
        ⊎_elim (λ (same : j ≡ k). subst (λ v. TurnOf a now had sched before w c n (Issues v i)) (sym same) (turn_own i) u r cl b)
        (λ (ne : j ≡ k → ⊥). turn_other j i ne u r cl b)
        (cases_eq j k)

  -- ---- the end of a cycle

  -- the job goes on, or has ended with no more than the most
  abbrev Counted : (had left ended ended' : ℕ) → Type 0
  Counted had left ended ended' = ((ended' ≡ ended) × (left ≡ had)) ⊎ ((ended' ≡ ended + 1) × (left ≡ 0) × (had ≤ most))

  record Settled (had ended : ℕ) (a : ℕ → ℕ) (s : MachineState) : Type 0 where
    left : ℕ
    shuts : ShutsAt s.now left (a k) (lines_in s.work.cache) s.core
    counted : Counted had left ended (ended_of k s)

  abbrev ResidesIn : (ℕ → ℕ) → MachineState → Type 0
  ResidesIn a s = Resides order p.plant (length p.tasks) runs scripts a (lines_in s.work.cache) s.core.mode s.core.interval s.core.mark

  abbrev ClockIn : ℕ → (ℕ → ℕ) → MachineState → Type 0
  ClockIn now a s = Clock order p.plant (length p.tasks) runs scripts now a (lines_in s.work.cache) s.core.mode s.core.interval s.core.mark s.core.debt

  same_sched : (mark : Change) (j : ℕ) (sched : List TaskJobs) → (mark ≡ Job → ⊥) → (task_at (sched_after mark j sched) k).ended ≡ (task_at sched k).ended
  same_sched Stay j sched ne = refl
  same_sched Memory j sched ne = refl
  same_sched (Execute l) j sched ne = refl
  same_sched End j sched ne = refl
  same_sched Job j sched ne = absurd (ne refl)

  other_sched : (mark : Change) (j : ℕ) (sched : List TaskJobs) → (j ≡ k → ⊥) → (task_at (sched_after mark j sched) k).ended ≡ (task_at sched k).ended
  other_sched Stay j sched ne = refl
  other_sched Memory j sched ne = refl
  other_sched (Execute l) j sched ne = refl
  other_sched End j sched ne = refl
  other_sched Job j sched ne = ap (λ (t : TaskJobs). t.ended) (get_or-set_other sched j k (with_job (task_at sched j)) no_task (λ e. ne (sym e)))

  job_sched : (sched : List TaskJobs) → k < length sched → (task_at (sched_after Job k sched) k).ended ≡ (task_at sched k).ended + 1
  job_sched sched lt = ap (λ (t : TaskJobs). t.ended) (get_or-set_same sched k (with_job (task_at sched k)) no_task lt)

  job_or : (c : Change) → (c ≡ Job) ⊎ (c ≡ Job → ⊥)
  job_or Stay = inr (λ e. let x : Stay ≡ Job = e in cc)
  job_or Memory = inr (λ e. let x : Memory ≡ Job = e in cc)
  job_or (Execute l) = inr (λ e. let x : Execute l ≡ Job = e in cc)
  job_or End = inr (λ e. let x : End ≡ Job = e in cc)
  job_or Job = inl refl

  closes_then : (now : ℕ) (i : Interval) (mark : Change) → ends_before now i mark ≡ true → Closes mark
  closes_then now i Stay e = absurd (let z : false ≡ true = e in cc)
  closes_then now i (Execute t) e = absurd (let z : false ≡ true = e in cc)
  closes_then now i Memory e = tt
  closes_then now i End e = tt
  closes_then now i Job e = tt

  module _ (a : ℕ → ℕ) (had : ℕ) (s : MachineState) (count : length s.sched ≡ length p.tasks) (r : ResidesIn a s) (c : ClockIn s.now a s) where
    own_closes : (i : Interval) (mark : Change) → s.core.mode ≡ Running k → s.core.interval ≡ i → s.core.mark ≡ mark →
        ends_before s.now i mark ≡ true →
        InRun p.plant (runs k) (scripts k) order scoping opens longest most k s.now had (a k) (lines_in s.work.cache)
        s.core.window i mark s.core.debt → Settled had (ended_of k s) a (close_interval k s)
    own_closes i mark e fi fm over h =
        let y : Issued mark (phase_at runs a k) (call_of (scripts k) (begun_at runs a k)).stated (begun_at runs a k).steps i =
        subst (λ m. Issued m (phase_at runs a k) (call_of (scripts k) (begun_at runs a k)).stated (begun_at runs a k).steps i) fm
        (subst (λ v. Issued s.core.mark (phase_at runs a k) (call_of (scripts k) (begun_at runs a k)).stated (begun_at runs a k).steps v) fi (r.runs_in k e).issued) in
        ⊎_elim (λ (job : mark ≡ Job).
        let z : phase_now p.plant (runs k) (scripts k) order scoping opens longest most k (a k) ≡ Compatible =
        (subst (λ m. Issued m (phase_at runs a k) (call_of (scripts k) (begun_at runs a k)).stated (begun_at runs a k).steps i) job y).1 in
        let kept : kept_by p.plant.switch (phase_now p.plant (runs k) (scripts k) order scoping opens longest most k (a k))
        (short p.plant (runs k) (scripts k) order scoping opens longest most k
        (call_now p.plant (runs k) (scripts k) order scoping opens longest most k (a k))) ≡ 0 =
        ap (λ q. kept_by p.plant.switch q
        (short p.plant (runs k) (scripts k) order scoping opens longest most k
        (call_now p.plant (runs k) (scripts k) order scoping opens longest most k (a k)))) z in
        record {
          left = 0;
          shuts = (omega (arith, kept), h.over (closes_then s.now i mark over));
          counted = inr (
            ap (λ m. (task_at (sched_after m k s.sched) k).ended) (fm ∙ job) ∙ job_sched s.sched (omega (arith, there, count)),
            refl,
            shut_job p.plant.switch longest most i.predictable mark i (phase_at runs a k) (begun_at runs a k).steps s.now (owed_of s.core.debt)
                h.credit (call_of (scripts k) (begun_at runs a k)).stated (opens ((begun_by (runs k) (a k)).calls - 1)) had
                (short p.plant (runs k) (scripts k) order scoping opens longest most k
                (call_now p.plant (runs k) (scripts k) order scoping opens longest most k (a k)))
                (job_now p.plant (runs k) (scripts k) order scoping opens longest most k (a k)) s.core.window refl y job h.shuts,
          );
        })
        (λ (ne : mark ≡ Job → ⊥). record {
          left = had;
          shuts = (
            shut_ends p.plant.switch longest most i.predictable mark i (phase_at runs a k) (begun_at runs a k).steps s.now (owed_of s.core.debt)
                h.credit (call_of (scripts k) (begun_at runs a k)).stated (opens ((begun_by (runs k) (a k)).calls - 1)) had
                (short p.plant (runs k) (scripts k) order scoping opens longest most k
                (call_now p.plant (runs k) (scripts k) order scoping opens longest most k (a k)))
                (job_now p.plant (runs k) (scripts k) order scoping opens longest most k (a k)) s.core.window refl some refl over y
                (λ pred is_end. in_time i e fi pred (fm ∙ is_end)) ne h.shuts,
            h.over (closes_then s.now i mark over),
          );
          counted = inl (same_sched s.core.mark k s.sched (λ x. ne (sym fm ∙ x)), refl);
        })
        (job_or mark) where
          in_time : (i : Interval) → s.core.mode ≡ Running k → s.core.interval ≡ i → i.predictable ≡ true → s.core.mark ≡ End → s.now ≤ i.first + i.stated
          in_time i e fi pred m =
              let y : s.now + owed_of s.core.debt ≤ s.core.interval.first + s.core.interval.stated =
              subst (λ x. InTime order p.plant x s.now (owed_of s.core.debt) s.core.interval (begun_at runs a k).steps (lines_in s.work.cache)) m
              (c.in_time k e (ap (λ (v : Interval). v.predictable) fi ∙ pred)) in
              subst (λ (v : Interval). s.now ≤ v.first + v.stated) fi (omega (arith, y))

    settle_shut : (m : Mode) → s.core.mode ≡ m → ShutsAt s.now had (a k) (lines_in s.work.cache) s.core → Settled had (ended_of k s) a (settle m s)
    settle_shut Point e b = record { left = had; shuts = b; counted = inl (refl, refl) }
    settle_shut (Switching j left) e b = record { left = had; shuts = b; counted = inl (refl, refl) }
    settle_shut (Running j) e b =
        cond_both (is_paid s.core.debt && ends_before s.now s.core.interval s.core.mark) (close_interval j s) s (Settled had (ended_of k s) a)
        (λ over.
        let parts : (is_paid s.core.debt ≡ true) × (ends_before s.now s.core.interval s.core.mark ≡ true) = and_parts (is_paid s.core.debt) (ends_before s.now s.core.interval s.core.mark) over in
        let t : (j ≡ k → InRun p.plant (runs k) (scripts k) order scoping opens longest most k s.now had (a k) (lines_in s.work.cache)
        s.core.window s.core.interval s.core.mark s.core.debt) × ((j ≡ k → ⊥) → IsHeld had (a k)) =
        subst (λ m. Shuts p.plant (runs k) (scripts k) order scoping opens longest most k s.now had (a k) (lines_in s.work.cache) s.core.window m s.core.interval s.core.mark s.core.debt) e b in
        ⊎_elim (λ (mine : j ≡ k). subst (λ v. Settled had (ended_of k s) a (close_interval v s)) (sym mine)
        (own_closes s.core.interval s.core.mark (e ∙ ap (λ v. Running v) mine) refl refl parts.1 (t.0 mine)))
        (λ (ne : j ≡ k → ⊥). record { left = had; shuts = t.1 ne; counted = inl (other_sched s.core.mark j s.sched ne, refl) })
        (cases_eq j k))
        (λ _. record { left = had; shuts = b; counted = inl (refl, refl) })
    settle_shut (Idle until) e b =
        cond_both (ltb s.now until) s (record s { core = at_point s.core }) (Settled had (ended_of k s) a)
        (λ _. record { left = had; shuts = b; counted = inl (refl, refl) })
        (λ _. record {
          left = had;
          shuts =
              subst (λ m. Shuts p.plant (runs k) (scripts k) order scoping opens longest most k s.now had (a k) (lines_in s.work.cache)
              s.core.window m s.core.interval s.core.mark s.core.debt) e b;
          counted = inl (refl, refl);
        })

  ticked_shut : (a : ℕ → ℕ) (had : ℕ) (s : MachineState) → s.trapped ≡ None → length s.sched ≡ length p.tasks →
      ShutsAt (s.now + 1) had (a k) (lines_in s.work.cache) s.core → ResidesIn a s → ClockIn (s.now + 1) a s → Settled had (ended_of k s) a (ticked s)
  ticked_shut a had s u count b r c =
      subst (λ t. Settled had (ended_of k s) a (cond (is_some t) s (next_cycle s))) (sym u)
      (settle_shut a had (with_now s (s.now + 1)) count r c s.core.mode refl b)

  -- ---- a cycle

  -- a compatible interval ends with no `pm.end`
  no_end : (a : ℕ → ℕ) (s : MachineState) → ResidesIn a s → s.core.interval.predictable ≡ false → s.core.mark ≡ End → s.core.mode ≡ Running k → ⊥
  no_end a s r none mark e =
      let x : Issued End (phase_at runs a k) (call_of (scripts k) (begun_at runs a k)).stated (begun_at runs a k).steps s.core.interval =
      subst (λ c. Issued c (phase_at runs a k) (call_of (scripts k) (begun_at runs a k)).stated (begun_at runs a k).steps s.core.interval) mark (r.runs_in k e).issued in
      let y : true ≡ false = sym x.0 ∙ none in cc

  cycle_shut : (s : MachineState) (xs : List CycleStep) (had : ℕ) → is_finished s ≡ false → IsKnown (λ j. count_of j xs) s →
      IsKeeping (λ j. count_of j xs) s → IsLasting (λ j. count_of j xs) s →
      (wants (want_of s.core.debt) ≡ true → (j : ℕ) × (s.core.mode ≡ Running j)) → ShutsAt s.now had (count_of k xs) (lines_in s.work.cache) s.core →
      Settled (had + counts longest (is_task k (serves_of s)) s.now s.core.window) (ended_of k s)
      (λ j. count_of j (with_last (step_with rule p (bus_at (arrivals_at requests s).gates s) s) xs)) (cycle_of rule p requests s)
  cycle_shut s xs had go kn ke l owes t =
      let a : ℕ → ℕ = λ j. count_of j xs in
      let ar : Arrivals = arrivals_at requests s in
      let b : Turned = bus_at ar.gates s in
      let w : Work = with_memory b.memory s.work in
      let n : Counts = with_clash b.turn.clash s.log.counts in
      let rs : Runs p own runs = own_runs rule order passes p content inputs requests own runs scripts policy keep q o in
      let f : Meets p own b (move_at p b s) s = meets rule order passes p content inputs requests own runs scripts policy keep q o a s kn ke in
      let fa : Faces rule order passes p own runs scripts policy keep rs a b (move_at p b s) s =
      faces rule order passes p own runs scripts policy keep rs a b (move_at p b s) s (known_core rule order passes p content inputs requests own runs scripts policy keep q o a s kn) ke f in
      let cm : ClockMove order p.plant (length p.tasks) runs scripts s.now a (lines_in w.cache) (move_at p b s) =
      clock_moves order p.plant (length p.tasks) runs scripts a (lines_in w.cache) s.now p b.turn.core s.sched w s.core (move_at p b s) (move_cases p s.now b.turn.core s.sched w s.core) f.serves
      (λ j e none pred.
      let lt : j < length p.tasks = (subst (Scheduled p runs a s.sched) e fa.scheduled).unfinished.bound in
      ke.resides.rests j lt none (ap is_predictable (sym (fa.phases.same j lt)) ∙ pred))
      l.goes_on l.clock in
      let mb : ShutMove p.plant (runs k) (scripts k) order scoping opens longest most k s.now had (a k) (lines_in w.cache) s.sched s.core.mode s.core.window (move_at p b s) =
      moves_shut p.plant (runs k) (scripts k) order scoping opens longest most k s.now had (a k) (lines_in w.cache) s.sched p b.turn.core w s.core
      (move_at p b s) refl (move_cases p s.now b.turn.core s.sched w s.core) l.clock.positive f.serves owes l.goes_on
      (no_end a s ke.resides) (not_finished s go) (fa.phases.same k there) (λ x. fa.phases.runs_alone k (fa.phases.same k there ∙ x)) t in
      let c : Comes rule order passes p own runs scripts policy keep rs a ar b (move_at p b s) s = coming rule order passes p content inputs requests own runs scripts policy keep q o a s kn ke in
      let tb : ShutsAt (s.now + 1) (had + counts longest (is_task k (serves_of s)) s.now s.core.window) (bump_move (move_at p b s) a k)
      (lines_in (core_at rule p b s).work.cache) (core_at rule p b s).core =
      turn_shut a s.now had s.sched s.core.mode w s.core n fa.stands rs (move_at p b s) fa.scheduled fa.moves_to cm mb in
      subst (λ f. Settled (had + counts longest (is_task k (serves_of s)) s.now s.core.window) (ended_of k s) f (cycle_of rule p requests s))
      (λ x i. count_move rule p s.now w (move_at p b s) xs i c.issued x)
      (ticked_shut (bump_move (move_at p b s) a) (had + counts longest (is_task k (serves_of s)) s.now s.core.window)
      (joined ar b (core_at rule p b s) s) c.position.untrapped kn.stand.position.schedules.count tb c.turn.resides
      (core_clock rule order passes p own runs scripts policy keep rs a b (move_at p b s) s ke l f fa))

  -- ---- all states

  abbrev had_by : ℕ → ℕ
  had_by n = closed_for states longest k (ended_of k (states n)) n

  record Through (n : ℕ) : Type 0 where
    current : is_over (states n) ≡ false → ShutsAt (states n).now (had_by n) (at n k) (lines_in (states n).work.cache) (states n).core
    later : (m : ℕ) → ended_of k (states n) < m → closed_for states longest k m n ≡ 0
    before : (m : ℕ) → m < ended_of k (states n) → closed_for states longest k m n ≤ most

  first_through : Through 0
  unfolding cycles_of steps_of begun_by plain_steps closed_charged scope_by
  first_through = record { current = λ on. (omega arith, refl); later = λ m lt. refl; before = λ m lt. omega arith }

  -- what a cycle counts
  drop_true : (a b : Bool) → b ≡ true → (a && b) ≡ a
  drop_true true b e = e
  drop_true false b e = refl

  drop_false : (a b : Bool) → b ≡ false → (a && b) ≡ false
  drop_false true b e = e
  drop_false false b e = refl

  count_here : (n : ℕ) → is_over (states n) ≡ false →
      closed_for states longest k (ended_of k (states n)) (suc n)
      ≡ had_by n + counts longest (is_task k (serves_of (states n))) (states n).now (states n).core.window
  count_here n on =
      let a : one_if (not (is_over (states n)) && (works_for k (ended_of k (states n)) (states n) && is_closed longest (states n)))
      ≡ one_if (works_for k (ended_of k (states n)) (states n) && is_closed longest (states n)) =
      ap (λ b. one_if (not b && (works_for k (ended_of k (states n)) (states n) && is_closed longest (states n)))) on in
      let b : works_for k (ended_of k (states n)) (states n) ≡ is_task k (serves_of (states n)) =
      drop_true (is_task k (serves_of (states n))) (eqb (ended_of k (states n)) (ended_of k (states n)))
      (eq-eqb (ended_of k (states n)) (ended_of k (states n)) refl) in
      ap (λ x. had_by n + x) (a ∙ ap (λ x. one_if (x && is_closed longest (states n))) b)

  count_other : (n m : ℕ) → (ended_of k (states n) ≡ m → ⊥) → closed_for states longest k m (suc n) ≡ closed_for states longest k m n
  count_other n m ne =
      let b : works_for k m (states n) ≡ false = drop_false (is_task k (serves_of (states n))) (eqb (ended_of k (states n)) m) (ne_eqb (ended_of k (states n)) m ne) in
      let z : one_if (not (is_over (states n)) && (works_for k m (states n) && is_closed longest (states n))) ≡ 0 =
      ap (λ x. one_if (not (is_over (states n)) && (x && is_closed longest (states n)))) b ∙ ap one_if (drop_false (not (is_over (states n))) false refl) in
      omega (arith, z)

  count_over : (n m : ℕ) → is_over (states n) ≡ true → closed_for states longest k m (suc n) ≡ closed_for states longest k m n
  count_over n m over = let z : one_if (not (is_over (states n)) && (works_for k m (states n) && is_closed longest (states n))) ≡ 0 =
      ap (λ x. one_if (not x && (works_for k m (states n) && is_closed longest (states n)))) over in omega (arith, z)

  running_wants : (n : ℕ) → is_over (states n) ≡ false → wants (want_of (states n).core.debt) ≡ true → (j : ℕ) × ((states n).core.mode ≡ Running j)
  running_wants n on w = by (states n).core.mode (run_holds p periods rule content inputs requests n on).mode where
    by : (m : Mode) → InMode p periods (states n).now (states n).sched (states n).core.window (states n).core.debt m → (j : ℕ) × (m ≡ Running j)
    by Point h = absurd (let x : false ≡ true = sym h ∙ w in cc)
    by (Switching j left) h = absurd (let x : false ≡ true = sym h.1 ∙ w in cc)
    by (Running j) h = (j, refl)
    by (Idle until) h = absurd (let x : false ≡ true = sym h.1 ∙ w in cc)

  next_settled : (n : ℕ) → Through n → is_over (states n) ≡ false →
      Settled (had_by n + counts longest (is_task k (serves_of (states n))) (states n).now (states n).core.window) (ended_of k (states n))
      (at (suc n)) (states (suc n))
  unfolding cycles_of steps_of
  next_settled n t on =
      let s : MachineState = states n in
      let xs : List CycleStep = steps_of rule p requests n start in
      let none : Option CycleStep = None in
      subst (λ b. Settled (had_by n + counts longest (is_task k (serves_of (states n))) (states n).now (states n).core.window) (ended_of k (states n))
      (λ j. count_of j (with_last (cond b none (step_with rule p (bus_at (arrivals_at requests s).gates s) s)) xs))
      (cond b s (cycle_of rule p requests s))) (sym on)
      (cycle_shut s xs (had_by n) (first_no (is_finished s) (is_some s.trapped) (is_full s) on) (known rule order passes p content inputs requests own runs scripts policy keep q o n)
      (run_keeps rule order passes p content inputs requests own runs scripts policy keep q o n) (run_lasts rule order passes p content inputs requests own runs scripts policy keep q o n)
      (running_wants n on) (t.current on))

  next_by : (n : ℕ) → is_over (states n) ≡ false → Through n → (left : ℕ) →
      (is_over (states (suc n)) ≡ false → ShutsAt (states (suc n)).now left (at (suc n) k) (lines_in (states (suc n)).work.cache) (states (suc n)).core) →
      Counted (had_by n + counts longest (is_task k (serves_of (states n))) (states n).now (states n).core.window) left (ended_of k (states n)) (ended_of k (states (suc n))) → Through (suc n)
  next_by n on t left sh (inl same) = record {
    current = λ on'. subst (λ h. ShutsAt (states (suc n)).now h (at (suc n) k) (lines_in (states (suc n)).work.cache) (states (suc n)).core)
        (same.1 ∙ sym (count_here n on) ∙ ap (λ m. closed_for states longest k m (suc n)) (sym same.0)) (sh on');
    later = λ m lt. count_other n m (λ e. omega (arith, e, lt, same.0)) ∙ t.later m (omega (arith, lt, same.0));
    before = λ m lt. let e : closed_for states longest k m (suc n) ≡ closed_for states longest k m n =
        count_other n m (λ e. omega (arith, e, lt, same.0)) in let b : closed_for states longest k m n ≤ most =
        t.before m (omega (arith, lt, same.0)) in omega (arith, e, b);
  }
  next_by n on t left sh (inr one) = record {
    current = λ on'.
        let z : closed_for states longest k (ended_of k (states n) + 1) (suc n) ≡ 0 =
        count_other n (ended_of k (states n) + 1) (λ e. omega (arith, e)) ∙ t.later (ended_of k (states n) + 1) (omega arith) in
        subst (λ h. ShutsAt (states (suc n)).now h (at (suc n) k) (lines_in (states (suc n)).work.cache) (states (suc n)).core)
        (one.1 ∙ sym z ∙ ap (λ m. closed_for states longest k m (suc n)) (sym one.0)) (sh on');
    later = λ m lt. count_other n m (λ e. omega (arith, e, lt, one.0)) ∙ t.later m (omega (arith, lt, one.0));
    before = λ m lt.
        ⊎_elim (λ (same : m ≡ ended_of k (states n)).
        let e : closed_for states longest k m (suc n)
        ≡ had_by n + counts longest (is_task k (serves_of (states n))) (states n).now (states n).core.window =
        ap (λ i. closed_for states longest k i (suc n)) same ∙ count_here n on in
        omega (arith, e, one.2))
        (λ (ne : m ≡ ended_of k (states n) → ⊥).
        let less : m < ended_of k (states n) =
        ⊎_elim (λ (y : m < ended_of k (states n)). y)
        (λ (y : ended_of k (states n) ≤ m). let e : m ≡ ended_of k (states n) = omega (arith, y, lt, one.0) in absurd (ne e))
        (cases_lt m (ended_of k (states n))) in
        let e : closed_for states longest k m (suc n) ≡ closed_for states longest k m n = count_other n m (λ e. ne (sym e)) in
        let b : closed_for states longest k m n ≤ most = t.before m less in omega (arith, e, b))
        (cases_eq m (ended_of k (states n)));
  }

  over_next : (n : ℕ) → is_over (states n) ≡ true → Through n → Through (suc n)
  over_next n over t =
      let e : states (suc n) ≡ states n = stays_is rule p content inputs requests n over in
      record {
        current = λ on'. let x : true ≡ false = sym over ∙ ap is_over (sym e) ∙ on' in absurd cc;
        later = λ m lt. count_over n m over ∙ t.later m (subst (λ (s : MachineState). ended_of k s < m) e lt);
        before = λ m lt. let f : closed_for states longest k m (suc n) ≡ closed_for states longest k m n = count_over n m over in
            let b : closed_for states longest k m n ≤ most = t.before m (subst (λ (s : MachineState). m < ended_of k s) e lt) in omega (arith, f, b);
      }

  through : (n : ℕ) → Through n
  through zero = first_through
  through (suc n) =
      ⊎_elim (λ (over : is_over (states n) ≡ true). over_next n over (through n))
      (λ (on : is_over (states n) ≡ false).
      let c : Settled (had_by n + counts longest (is_task k (serves_of (states n))) (states n).now (states n).core.window) (ended_of k (states n))
      (at (suc n)) (states (suc n)) = next_settled n (through n) on in
      next_by n on (through n) c.left (λ _. c.shuts) c.counted)
      (cases_Bool (is_over (states n)))

  -- ---- all jobs

  -- none that isn't there is worked for
  no_job : (n m : ℕ) → (record_of p k).jobs ≤ m → closed_for states longest k m n ≡ 0
  no_job zero m le = refl
  no_job (suc n) m le =
      ⊎_elim (λ (over : is_over (states n) ≡ true). count_over n m over ∙ no_job n m le)
      (λ (on : is_over (states n) ≡ false).
      ⊎_elim (λ (same : ended_of k (states n) ≡ m).
      let w : is_task k (serves_of (states n)) ≡ false = not_served n m on same le in
      let z : one_if (not (is_over (states n)) && (works_for k m (states n) && is_closed longest (states n))) ≡ 0 =
      ap (λ x. one_if (not (is_over (states n)) && ((x && (eqb (ended_of k (states n)) m)) && is_closed longest (states n)))) w
      ∙ ap one_if (drop_false (not (is_over (states n))) false refl) in
      let y : closed_for states longest k m n ≡ 0 = no_job n m le in omega (arith, z, y))
      (λ (ne : ended_of k (states n) ≡ m → ⊥). count_other n m ne ∙ no_job n m le)
      (cases_eq (ended_of k (states n)) m))
      (cases_Bool (is_over (states n))) where
        not_served : (n m : ℕ) → is_over (states n) ≡ false → ended_of k (states n) ≡ m → (record_of p k).jobs ≤ m → is_task k (serves_of (states n)) ≡ false
        not_served n m on same le = by (serves_of (states n)) refl where
          by : (o : Option ℕ) → serves_of (states n) ≡ o → is_task k o ≡ false
          by None e = refl
          by (Some j) e =
              ⊎_elim (λ (mine : k ≡ j).
              let r : IsReady (states n).now (states n).sched k = served_ready p periods rule content inputs requests n k on (e ∙ ap (λ i. Some i) (sym mine)) in
              let h : Holds p periods (states n) = run_holds p periods rule content inputs requests n on in
              let s : 1 ≤ (task_at (states n).sched k).period = some_period p periods (states n).now (states n).sched h.tasks k there in
              let y = ready_means (task_at (states n).sched k) (states n).now s r.1 in
              absurd (omega (arith, y.0, h.tasks.jobs k there, same, le)))
              (λ (ne : k ≡ j → ⊥). ne_eqb k j ne)
              (cases_eq k j)

  grows_for : (m n i : ℕ) → closed_for states longest k m n ≤ closed_for states longest k m (n + i)
  grows_for m n zero = let e : n + 0 ≡ n = omega arith in subst (λ t. closed_for states longest k m n ≤ closed_for states longest k m t) (sym e) (omega arith)
  grows_for m n (suc i) =
      let e : n + suc i ≡ suc (n + i) = omega arith in
      let was : closed_for states longest k m n ≤ closed_for states longest k m (n + i) = grows_for m n i in
      subst (λ t. closed_for states longest k m n ≤ closed_for states longest k m t) (sym e) (omega (arith, was))

  pub few_closed : (limit : ℕ) → ((n : ℕ) → limit ≤ n → (record_of p k).jobs ≤ ended_of k (states n)) → (job n : ℕ) → closed_for states longest k job n ≤ most
  few_closed limit done job n =
      ⊎_elim (λ (lt : job < (record_of p k).jobs).
      let e : (record_of p k).jobs ≤ ended_of k (states (n + limit)) = done (n + limit) (omega arith) in
      let b : closed_for states longest k job (n + limit) ≤ most = (through (n + limit)).before job (omega (arith, lt, e)) in
      omega (arith, b, grows_for job n limit))
      (λ (past : (record_of p k).jobs ≤ job). let z : closed_for states longest k job n ≡ 0 = no_job n job past in omega (arith, z))
      (cases_lt job (record_of p k).jobs)

-- ---- the law

least_done : (now : ℕ) (sched : List TaskJobs) (o l : Option ℕ) → first_ready now 0 sched ≡ o → least_release now sched ≡ l → run_or o (rest l) ≡ Finished → All IsDone sched
least_done now sched (Some j) l f m e = absurd (let x : Run j ≡ Finished = e in cc)
least_done now sched None (Some u) f m e = absurd (let x : Rest u ≡ Finished = e in cc)
least_done now sched None None f m e = least_none now sched m

-- from the limit on all jobs have ended
pub all_ended : (rule : ReplacementRule) (order : OrderRule) (passes : ℕ → ℕ) (p : Setup) (content : List ℕ) (inputs : List (List ℕ))
    (requests : List Request) (own : ℕ → ℕ → Bool) (runs : ℕ → TaskRun) (scripts : ℕ → Script) (k m : ℕ) → IsPolicy rule order passes →
    IsRun p content requests → AreScripts p passes content inputs own runs scripts → k < length p.tasks → limit_of p scripts ≤ m →
    (record_of p k).jobs ≤ ended_of k (state rule p content inputs requests m)
all_ended rule order passes p content inputs requests own runs scripts k m policy run is there le =
    let s : MachineState = state rule p content inputs requests m in
    let f : is_finished s ≡ true = scripts_finish rule order passes p content inputs requests own runs scripts m policy run is le in
    let g : (s.core.mode ≡ Point) × (choice s.now s.sched ≡ Finished) = finished_point s.now s.sched s.core.mode f in
    let all : All IsDone s.sched = least_done s.now s.sched (first_ready s.now 0 s.sched) (least_release s.now s.sched) refl refl g.1 in
    let kn = known rule order passes p content inputs requests own runs scripts policy is.each run.runnable is.own_runs m in
    let d : (task_at s.sched k).jobs ≤ (task_at s.sched k).ended = all k no_task (omega (arith, there, kn.stand.position.schedules.count)) in
    omega (arith, d, kn.stand.position.schedules.jobs k there, (is.own_runs.runs_are k there).jobs)

pub jobs_keep_closed_by_charges : JobsKeepClosedByCharges
jobs_keep_closed_by_charges rule order passes p content inputs requests own runs scripts scoping opens longest k most job n policy run is there some scoped opened few =
    few_closed rule order passes p content inputs requests own runs scripts policy is.each run.runnable is.own_runs run.periods scoping opens longest
    most k there some scoped opened few (limit_of p scripts)
    (λ m le. all_ended rule order passes p content inputs requests own runs scripts k m policy run is there le) job n
