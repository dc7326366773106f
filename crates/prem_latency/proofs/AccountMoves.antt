-- The accounts of a task in a cycle of the core.
use Rattle.std.specs.Prelude.{◌&&◌}
use Rattle.std.proofs.Common.{◌≡◌, ℕ, zero, suc, ◌+◌, ◌-◌, ◌≤◌, refl, ap, ◌∙◌, sym, subst, arith, true, false, Bool, Some, Option, List, [], ⊎_elim}
use Rattle.std.proofs.lemmas.Bool.{cases_eq, ne_eqb}
use Rattle.prem_plant.specs.declared.plant.Plant.{Plant}
use Rattle.prem_plant.specs.Order.Order.{OrderRule}
use Rattle.prem_sched.specs.declared.sched.TaskJobs.{TaskJobs}
use Rattle.prem_sched.specs.declared.sched.Choice.TheVariants.{Finished}
use Rattle.prem_sched.specs.Schedule.{choice}
use Rattle.prem_isa.specs.declared.effect.Phase.{Phase}
use Rattle.prem_isa.specs.declared.effect.Phase.TheVariants.{Compatible, Memory as MemoryPhase, Execution}
use Rattle.prem_isa.specs.declared.effect.Change.{Change}
use Rattle.prem_isa.specs.declared.effect.Change.TheVariants.{Stay, Memory, Execute, End, Job}
use Rattle.prem_isa.specs.Act.{phase_after}
use Rattle.prem_isa.specs.Bounds.{IsLawful}
use Rattle.prem_isa.specs.Plain.{TaskRun, Did, plain_did, plain_run}
use Rattle.prem_isa.proofs.PlainLaws.{plain_steps-next}
use Rattle.prem_gate.specs.declared.bus.Window.{Window}
use Rattle.prem_gate.specs.Gates.{wants}
use Rattle.prem_cycle.specs.declared.state.Mode.{Mode}
use Rattle.prem_cycle.specs.declared.state.Mode.TheVariants.{Point, Switching, Running, Idle}
use Rattle.prem_cycle.specs.declared.state.Interval.{Interval}
use Rattle.prem_cycle.specs.State.{Setup, Work, CoreState, Debt}
use Rattle.prem_cycle.specs.Core.{want_of, paid_on_bus, is_paid, CoreMove, Passes, Issues, is_predictable, new_interval, phase_in, window_after}
use Rattle.prem_cycle.specs.Cycle.{ends_before}
use Rattle.prem_cycle.proofs.CoreCases.{Closes, MoveCase, pays_on_bus, is_denied, pays_cost, waits, goes_on, switches, begins, chooses, chooses_now, begins_idle, has_finished, idles}
use Rattle.prem_cycle.proofs.RunsLemmas.PositionLemmas.Debts.{ArePositive, none_wanted, PaysOne, pays_one, paid_is}
use Rattle.prem_sound.specs.Script.Script.{Begun, begun_after, begun_with, begun_by, Script, call_at, call_of}
use Rattle.prem_sound.specs.Paced.Paced.{within_job}
use Rattle.prem_sound.proofs.ScriptLemmas.Begins.{Executed, executed, next_phase, did_lawful, begun_by-next}
use Rattle.prem_sound.proofs.ResidentLemmas.Residents.{Goes, with_stated}
use Rattle.prem_sound.proofs.CallRuns.{begins_call, calls_after}
use Rattle.prem_sound.proofs.Lasts.{owed_of}
use Rattle.prem_sound.proofs.Spends.{kept_by}
use Rattle.prem_resp.specs.Busy.Schedule.{is_task}
use Rattle.prem_resp.specs.Deadline.Timeline.{chosen_task, serves_in}
use Rattle.prem_latency.specs.Closed.{short_of, closed_with, closed_charged, IsClosedBy}
use Rattle.prem_latency.proofs.Accounts.{counts, one_most, HasShut, MayShut, shut_on, shut_waits, shut_goes, shut_begins, shut_issues}
use Rattle.prem_sound.specs.Scopes.Charged.{Scoping, within_scope, scope_with, scope_by, scope_at as lines_at, Charges, charges_by, did_charge}
use Rattle.prem_sound.proofs.ScopesLemmas.ChargeRuns.{scope_by-next}
use Rattle.prem_sound.proofs.ScopesLemmas.Credits.{Backed, backed_none}

closed_charged-next : (plant : Plant) (short : ℕ → ℕ) (run : TaskRun) (charge : Charges) (n : ℕ) →
    closed_charged plant short run charge (n + 1)
    ≡ closed_with plant short (begun_by run n) charge n (plain_did run (plain_run run n)) (closed_charged plant short run charge n)
unfolding closed_charged
closed_charged-next plant short run charge n = let e : n + 1 ≡ suc n = omega arith in ap (closed_charged plant short run charge) e

over_scope : (c : Change) (lines : List ℕ) → Closes c → within_scope c lines ≡ []
over_scope Stay lines y = absurd y
over_scope (Execute t) lines y = absurd y
over_scope Memory lines y = refl
over_scope End lines y = refl
over_scope Job lines y = refl

calm_phase : (ph : Phase) → is_predictable ph ≡ false → ph ≡ Compatible
calm_phase Compatible e = refl
calm_phase MemoryPhase e = absurd (let z : true ≡ false = e in cc)
calm_phase Execution e = absurd (let z : true ≡ false = e in cc)

module _ (plant : Plant) (run : TaskRun) (s : Script) (order : OrderRule) (scoping : Scoping) (opens : ℕ → ℕ) (longest most k : ℕ) where
  -- ---- behind so many instructions

  abbrev pub short : ℕ → ℕ
  short i = short_of s opens longest i

  abbrev pub call_now : ℕ → ℕ
  call_now a = (begun_by run a).calls - 1

  abbrev pub stated_now : ℕ → ℕ
  stated_now a = (call_of s (begun_by run a)).stated

  abbrev pub phase_now : ℕ → Phase
  phase_now a = (plain_run run a).task.phase

  abbrev pub job_now : ℕ → ℕ
  job_now a = closed_charged plant short run (charges_by plant run scoping) a

  -- the lines of the scope in which the task stands
  abbrev pub scope_now : ℕ → List ℕ
  scope_now a = scope_by run scoping a

  -- where the task doesn't run: it stands in no scope
  abbrev pub Held : (had a : ℕ) → Type 0
  Held had a = (had + kept_by plant.switch (phase_now a) (short (call_now a)) ≤ job_now a) × (scope_now a ≡ [])

  -- where it runs: so much of its scope's credit is left
  pub record InRun (now had a : ℕ) (orders : List (List ℕ)) (w : Window) (i : Interval) (mark : Change) (debt : Debt) : Type 0 where
    pub credit : ℕ
    pub backed : i.predictable ≡ false → Backed order plant orders (scope_now a) credit
    pub over : Closes mark → scope_now a ≡ []
    pub shuts : HasShut plant.switch longest most i.predictable mark (phase_now a) now (owed_of debt) credit i.first (stated_now a) (opens (call_now a)) had (short (call_now a)) (job_now a) w

  abbrev pub Shuts : (now had a : ℕ) → List (List ℕ) → Window → Mode → Interval → Change → Debt → Type 0
  Shuts now had a orders w Point i mark debt = Held had a
  Shuts now had a orders w (Switching j left) i mark debt =
      (j ≡ k → (had + left + kept_by plant.switch (phase_now a) (short (call_now a)) ≤ plant.switch + job_now a) × (scope_now a ≡ []))
      × ((j ≡ k → ⊥) → Held had a)
  Shuts now had a orders w (Running j) i mark debt = (j ≡ k → InRun now had a orders w i mark debt) × ((j ≡ k → ⊥) → Held had a)
  Shuts now had a orders w (Idle until) i mark debt = Held had a

  pub record ShutIssue (now had a : ℕ) (orders : List (List ℕ)) (w : Window) (i : Interval) : Type 0 where
    pub credit : ℕ
    pub backed : i.predictable ≡ false → Backed order plant orders (scope_now a) credit
    pub shuts : MayShut plant.switch longest most i.predictable (phase_now a) now credit i.first (stated_now a) (opens (call_now a)) had (short (call_now a)) (job_now a) w

  abbrev pub ShutMove : (now had a : ℕ) (orders : List (List ℕ)) (sched : List TaskJobs) → Mode → Window → CoreMove → Type 0
  ShutMove now had a orders sched m w (Passes c) = Shuts (now + 1) (had + counts longest (is_task k (serves_in now sched m)) now w) a orders c.window c.mode c.interval c.mark c.debt
  ShutMove now had a orders sched m w (Issues j i) = (serves_in now sched m ≡ Some j) × (j ≡ k → ShutIssue now had a orders w i) × ((j ≡ k → ⊥) → Held had a)

  -- ---- the move

  -- a cycle of another task counts nothing
  none_counts : (o : Option ℕ) (now : ℕ) (w : Window) → is_task k o ≡ false → counts longest (is_task k o) now w ≡ 0
  none_counts o now w e = ap (λ b. counts longest b now w) e

  other_task : (j : ℕ) → (j ≡ k → ⊥) → is_task k (Some j) ≡ false
  other_task j ne = ne_eqb k j (λ e. ne (sym e))

  module _ (now had a : ℕ) (orders : List (List ℕ)) (sched : List TaskJobs) where
    held_other : (o : Option ℕ) (w : Window) → is_task k o ≡ false → Held had a → Held (had + counts longest (is_task k o) now w) a
    held_other o w e h = let z : counts longest (is_task k o) now w ≡ 0 = none_counts o now w e in (omega (arith, z, h.0), h.1)

    -- while a task runs, with the same window
    run_on : (j : ℕ) (c c' : CoreState) → c.mode ≡ Running j → c'.mode ≡ Running j → c'.window ≡ c.window → c'.interval ≡ c.interval → c'.mark ≡ c.mark →
        (InRun now had a orders c.window c.interval c.mark c.debt →
        InRun (now + 1) (had + counts longest (is_task k (serves_in now sched c.mode)) now c.window) a orders c.window c.interval c.mark c'.debt) →
        Shuts now had a orders c.window c.mode c.interval c.mark c.debt →
        Shuts (now + 1) (had + counts longest (is_task k (serves_in now sched c.mode)) now c.window) a orders c'.window c'.mode c'.interval c'.mark c'.debt
    run_on j c c' e f g h i step r =
        let t : (j ≡ k → InRun now had a orders c.window c.interval c.mark c.debt) × ((j ≡ k → ⊥) → Held had a) = subst (λ m. Shuts now had a orders c.window m c.interval c.mark c.debt) e r in
        subst (λ m. Shuts (now + 1) (had + counts longest (is_task k (serves_in now sched c.mode)) now c.window) a orders c'.window m c'.interval c'.mark c'.debt) (sym f)
        (subst (λ v. Shuts (now + 1) (had + counts longest (is_task k (serves_in now sched c.mode)) now c.window) a orders v (Running j) c'.interval c'.mark c'.debt) (sym g)
        (subst (λ v. Shuts (now + 1) (had + counts longest (is_task k (serves_in now sched c.mode)) now c.window) a orders c.window (Running j) v c'.mark c'.debt) (sym h)
        (subst (λ v. Shuts (now + 1) (had + counts longest (is_task k (serves_in now sched c.mode)) now c.window) a orders c.window (Running j) c.interval v c'.debt) (sym i)
        (λ same. step (t.0 same), λ ne. held_other (serves_in now sched c.mode) c.window (ap (λ m. is_task k (serves_in now sched m)) e ∙ other_task j ne) (t.1 ne)))))

    pays_on : (c : CoreState) (debt : Debt) → 1 + owed_of debt ≤ owed_of c.debt → InRun now had a orders c.window c.interval c.mark c.debt →
        InRun (now + 1) (had + counts longest (is_task k (serves_in now sched c.mode)) now c.window) a orders c.window c.interval c.mark debt
    pays_on c debt le h =
        record {
          credit = h.credit;
          backed = h.backed;
          over = h.over;
          shuts = shut_on plant.switch longest most (is_task k (serves_in now sched c.mode)) c.interval.predictable c.mark (phase_now a) now
              (owed_of c.debt) (owed_of debt) h.credit c.interval.first (stated_now a) (opens (call_now a)) had (short (call_now a)) (job_now a)
              c.window le h.shuts;
        }

    pub moves_shut : (p : Setup) (bus : Bool) (w : Work) (c : CoreState) (m : CoreMove) → p.plant.switch ≡ plant.switch →
        MoveCase p now bus sched w c m → ArePositive c.debt.transactions → (wants (want_of c.debt) ≡ true → bus ≡ true) →
        (wants (want_of c.debt) ≡ true → (j : ℕ) × (c.mode ≡ Running j)) →
        ((j : ℕ) → c.mode ≡ Running j → (is_paid c.debt && ends_before now c.interval c.mark) ≡ false) →
        (c.interval.predictable ≡ false → c.mark ≡ End → c.mode ≡ Running k → ⊥) → (c.mode ≡ Point → choice now sched ≡ Finished → ⊥) →
        phase_in w k ≡ phase_now a → (phase_now a ≡ Execution → c.mode ≡ Running k) →
        Shuts now had a orders c.window c.mode c.interval c.mark c.debt → ShutMove now had a orders sched c.mode c.window m
    moves_shut p bus w c _ sw (pays_on_bus q h) pos serves owes on no_end go same ex r =
        let y : PaysOne c.debt (paid_on_bus c.debt.transactions c.debt) = pays_one c.debt pos q in
        let j : (j : ℕ) × (c.mode ≡ Running j) = owes q in
        run_on j.0 c _ j.1 j.1 refl refl refl (pays_on c (paid_on_bus c.debt.transactions c.debt) (omega (arith, y.less, y.cost))) r
    moves_shut p bus w c _ sw (is_denied q h) pos serves owes on no_end go same ex r = absurd (let z : false ≡ true = sym h ∙ serves q in cc)
    moves_shut p bus w c _ sw (pays_cost j cost q e h) pos serves owes on no_end go same ex r = run_on j c _ e e refl refl refl (pays_on c (record c.debt { cost = cost }) (omega (arith, h))) r
    moves_shut p bus w c _ sw (waits j q e h y) pos serves owes on no_end go same ex r =
        let paid : is_paid c.debt ≡ true = paid_is c.debt (none_wanted c.debt q) h in
        let over : ends_before now c.interval c.mark ≡ false = sym (ap (λ b. b && ends_before now c.interval c.mark) paid) ∙ on j e in
        ⊎_elim (λ (mine : j ≡ k).
        run_on j c c e e refl refl refl
        (λ h. record {
          credit = h.credit;
          backed = h.backed;
          over = h.over;
          shuts = shut_waits plant.switch longest most (is_task k (serves_in now sched c.mode)) c.interval.predictable c.interval c.mark (phase_now a)
              now (owed_of c.debt) h.credit c.interval.first (stated_now a) (opens (call_now a)) had (short (call_now a)) (job_now a) c.window y
              (λ f g. no_end f g (e ∙ ap (λ i. Running i) mine)) over h.shuts;
        }) r)
        (λ (ne : j ≡ k → ⊥).
        let t : (j ≡ k → InRun now had a orders c.window c.interval c.mark c.debt) × ((j ≡ k → ⊥) → Held had a) = subst (λ m. Shuts now had a orders c.window m c.interval c.mark c.debt) e r in
        subst (λ m. Shuts (now + 1) (had + counts longest (is_task k (serves_in now sched c.mode)) now c.window) a orders c.window m c.interval c.mark c.debt) (sym e)
        (λ mine. absurd (ne mine), λ _. held_other (serves_in now sched c.mode) c.window (ap (λ m. is_task k (serves_in now sched m)) e ∙ other_task j ne) (t.1 ne)))
        (cases_eq j k)
    moves_shut p bus w c _ sw (goes_on j q e h y) pos serves owes on no_end go same ex r =
        let t : (j ≡ k → InRun now had a orders c.window c.interval c.mark c.debt) × ((j ≡ k → ⊥) → Held had a) = subst (λ m. Shuts now had a orders c.window m c.interval c.mark c.debt) e r in (
          ap (serves_in now sched) e,
          λ mine.
              let h : InRun now had a orders c.window c.interval c.mark c.debt = t.0 mine in
              record {
                credit = h.credit;
                backed = h.backed;
                shuts = shut_goes plant.switch longest most c.interval.predictable c.mark (phase_now a) now (owed_of c.debt) h.credit c.interval.first
                    (stated_now a) (opens (call_now a)) had (short (call_now a)) (job_now a) c.window y h.shuts;
              },
          t.1,
        )
    moves_shut p bus w c _ sw (switches j left q e) pos serves owes on no_end go same ex r =
        let t : (j ≡ k → (had + suc left + kept_by plant.switch (phase_now a) (short (call_now a)) ≤ plant.switch + job_now a) × (scope_now a ≡ []))
        × ((j ≡ k → ⊥) → Held had a) = subst (λ m. Shuts now had a orders c.window m c.interval c.mark c.debt) e r in (
          λ mine. let one : counts longest (is_task k (serves_in now sched c.mode)) now c.window ≤ 1 =
              one_most longest (is_task k (serves_in now sched c.mode)) now c.window in (omega (arith, (t.0 mine).0, one), (t.0 mine).1),
          λ ne. held_other (serves_in now sched c.mode) c.window (ap (λ m. is_task k (serves_in now sched m)) e ∙ other_task j ne) (t.1 ne),
        )
    moves_shut p bus w c _ sw (begins j q e) pos serves owes on no_end go same ex r =
        let t : (j ≡ k → (had + zero + kept_by plant.switch (phase_now a) (short (call_now a)) ≤ plant.switch + job_now a) × (scope_now a ≡ []))
        × ((j ≡ k → ⊥) → Held had a) = subst (λ m. Shuts now had a orders c.window m c.interval c.mark c.debt) e r in (
          ap (serves_in now sched) e,
          λ mine. begun j w c mine same (λ x. let y : Switching j zero ≡ Running k = sym e ∙ ex x in cc)
              (let z : had + 0 + kept_by plant.switch (phase_now a) (short (call_now a)) ≤ plant.switch + job_now a = (t.0 mine).0 in
              omega (arith, z)) (t.0 mine).1,
          t.1,
        ) where
          begun : (j : ℕ) (w : Work) (c : CoreState) → j ≡ k → phase_in w k ≡ phase_now a → (phase_now a ≡ Execution → ⊥) →
              had + kept_by plant.switch (phase_now a) (short (call_now a)) ≤ plant.switch + job_now a → scope_now a ≡ [] →
              ShutIssue now had a orders c.window (new_interval now (phase_in w j))
          begun j w c mine same none h fresh =
              let f : phase_in w j ≡ phase_now a = ap (phase_in w) mine ∙ same in
              subst (λ ph. ShutIssue now had a orders c.window (new_interval now ph)) (sym f)
              (record {
                credit = 0;
                backed = λ e. subst (λ lines. Backed order plant orders lines 0) (sym fresh) (backed_none order plant orders);
                shuts = shut_begins plant.switch longest most (phase_now a) now (stated_now a) (opens (call_now a)) had (short (call_now a)) (job_now a) c.window none h;
              })
    moves_shut p bus w c _ sw (chooses j left q e h z) pos serves owes on no_end go same ex r =
        let t : Held had a = subst (λ m. Shuts now had a orders c.window m c.interval c.mark c.debt) e r in
        let sv : serves_in now sched c.mode ≡ Some j = ap (serves_in now sched) e ∙ ap chosen_task h in (
          λ mine. let one : counts longest (is_task k (serves_in now sched c.mode)) now c.window ≤ 1 =
              one_most longest (is_task k (serves_in now sched c.mode)) now c.window in (omega (arith, t.0, one, z, sw), t.1),
          λ ne. held_other (serves_in now sched c.mode) c.window (ap (is_task k) sv ∙ other_task j ne) t,
        )
    moves_shut p bus w c _ sw (chooses_now j q e h z) pos serves owes on no_end go same ex r =
        let t : Held had a = subst (λ m. Shuts now had a orders c.window m c.interval c.mark c.debt) e r in (
          ap (serves_in now sched) e ∙ ap chosen_task h,
          λ mine. begun j w c mine same (λ x. let y : Point ≡ Running k = sym e ∙ ex x in cc) (omega (arith, t.0)) t.1,
          λ ne. t,
        ) where
          begun : (j : ℕ) (w : Work) (c : CoreState) → j ≡ k → phase_in w k ≡ phase_now a → (phase_now a ≡ Execution → ⊥) →
              had + kept_by plant.switch (phase_now a) (short (call_now a)) ≤ plant.switch + job_now a → scope_now a ≡ [] →
              ShutIssue now had a orders c.window (new_interval now (phase_in w j))
          begun j w c mine same none h fresh =
              let f : phase_in w j ≡ phase_now a = ap (phase_in w) mine ∙ same in
              subst (λ ph. ShutIssue now had a orders c.window (new_interval now ph)) (sym f)
              (record {
                credit = 0;
                backed = λ e. subst (λ lines. Backed order plant orders lines 0) (sym fresh) (backed_none order plant orders);
                shuts = shut_begins plant.switch longest most (phase_now a) now (stated_now a) (opens (call_now a)) had (short (call_now a)) (job_now a) c.window none h;
              })
    moves_shut p bus w c _ sw (begins_idle until q e h) pos serves owes on no_end go same ex r =
        let t : Held had a = subst (λ m. Shuts now had a orders c.window m c.interval c.mark c.debt) e r in
        held_other (serves_in now sched c.mode) c.window (ap (λ m. is_task k (serves_in now sched m)) e ∙ ap (λ o. is_task k (chosen_task o)) h) t
    moves_shut p bus w c _ sw (has_finished q e h) pos serves owes on no_end go same ex r = absurd (go e h)
    moves_shut p bus w c _ sw (idles until q e) pos serves owes on no_end go same ex r =
        let t : Held had a = subst (λ m. Shuts now had a orders c.window m c.interval c.mark c.debt) e r in
        subst (λ m. Shuts (now + 1) (had + counts longest (is_task k (serves_in now sched c.mode)) now c.window) a orders c.window m c.interval c.mark c.debt) (sym e)
        (held_other (serves_in now sched c.mode) c.window (ap (λ m. is_task k (serves_in now sched m)) e) t)

    -- ---- an instruction

    no_calls : (c : Change) → (c ≡ Memory → ⊥) → begins_call c ≡ 0
    no_calls Stay ne = refl
    no_calls Memory ne = absurd (ne refl)
    no_calls (Execute l) ne = refl
    no_calls End ne = refl
    no_calls Job ne = refl

    -- what an instruction leaves of a credit, and that it is paid for
    pub record Paid (orders' : List (List ℕ)) (d : Did) (owed credit charge : ℕ) : Type 0 where
      pub spare : ℕ
      pub backed : d.phase ≡ Compatible → Backed order plant orders' (scope_now (a + 1)) spare
      pub pays : d.phase ≡ Compatible → owed + 1 + spare ≤ credit + charge

    -- the scope behind an instruction
    pub scope_next : (d : Did) → plain_did run (plain_run run a) ≡ Some d → scope_now (a + 1) ≡ within_scope d.change (lines_at run scoping a)
    scope_next d e = scope_by-next run scoping a ∙ ap (λ o. scope_with o (lines_at run scoping a)) e

    pub issues_shut : (orders' : List (List ℕ)) (i : Interval) (d : Did) (debt : Debt) (w : Window) (serves : Bool) →
        plain_did run (plain_run run a) ≡ Some d → Goes (phase_now a) (stated_now a) i → ((l : ℕ) → d.change ≡ Execute l → l ≡ stated_now a) →
        ((l : ℕ) → d.change ≡ Execute l → now ≤ i.first + opens (call_now a)) →
        IsClosedBy plant run short (charges_by plant run scoping) most → (h : ShutIssue now had a orders w i) → Paid orders' d (owed_of debt) h.credit (charges_by plant run scoping a d) →
        InRun (now + 1) (had + counts longest serves now w) (a + 1) orders' (window_after d.change now i.first w) (with_stated d.change i) d.change debt
    issues_shut orders' i d debt w serves e goes stated soon most_of h paid =
        let ph : Phase = phase_now a in
        let b : Begun = begun_by run a in
        let c : Change = d.change in
        let charge : Charges = charges_by plant run scoping in
        let n : ℕ = charge a d in
        let x : Executed run (plain_run run a) d = executed run (plain_run run a) d e in
        let same : d.phase ≡ ph = ap (λ (f : Did). f.phase) x.did_is in
        let l : IsLawful ph c = did_lawful run (plain_run run a) d x in
        let next : phase_now (a + 1) ≡ phase_after c ph = ap (λ q. q.task.phase) (plain_steps-next run a _) ∙ next_phase run (plain_run run a) d x in
        let after : begun_by run (a + 1) ≡ begun_after c d b = begun_by-next run a ∙ ap (λ o. begun_with o b) e in
        let calls : (begun_by run (a + 1)).calls ≡ b.calls + begins_call c = ap (λ (y : Begun). y.calls) after ∙ calls_after c d b in
        let job : job_now (a + 1) ≡ within_job c (job_now a + did_charge plant (short b.calls) ph c n) =
        closed_charged-next plant short run charge a ∙ ap (λ o. closed_with plant short b charge a o (job_now a)) e
        ∙ ap (λ q. within_job c (job_now a + did_charge plant (short b.calls) q c n)) same in
        let le : job_now a + did_charge plant (short b.calls) ph c n ≤ most = subst (λ q. job_now a + did_charge plant (short b.calls) q c n ≤ most) same (most_of.jobs a d e) in
        let fresh : c ≡ Memory → short (call_now (a + 1)) ≡ short b.calls = (λ m. let y : call_now (a + 1) ≡ b.calls = omega (arith, calls, ap begins_call m) in ap short y) in
        let kept : (c ≡ Memory → ⊥) → (short (call_now (a + 1)) ≡ short (call_now a)) × (stated_now (a + 1) ≡ stated_now a) × (opens (call_now (a + 1)) ≡ opens (call_now a)) =
        (λ ne. let y : call_now (a + 1) ≡ call_now a = omega (arith, calls, no_calls c ne) in (ap short y, ap (λ n. (call_at s n).stated) y, ap opens y)) in
        record {
          credit = paid.spare;
          backed = λ none. paid.backed (same ∙ calm_phase ph (goes.kind ∙ none));
          over = λ y. scope_next d e ∙ over_scope c (lines_at run scoping a) y;
          shuts =
              subst (λ q. HasShut plant.switch longest most q c (phase_now (a + 1)) (now + 1) (owed_of debt) paid.spare i.first (stated_now (a + 1))
              (opens (call_now (a + 1))) (had + counts longest serves now w) (short (call_now (a + 1))) (job_now (a + 1))
              (window_after c now i.first w)) goes.kind
              (subst (λ q. HasShut plant.switch longest most (is_predictable ph) c q (now + 1) (owed_of debt) paid.spare i.first (stated_now (a + 1))
              (opens (call_now (a + 1))) (had + counts longest serves now w) (short (call_now (a + 1))) (job_now (a + 1))
              (window_after c now i.first w)) (sym next)
              (subst (λ q. HasShut plant.switch longest most (is_predictable ph) c (phase_after c ph) (now + 1) (owed_of debt) paid.spare i.first
              (stated_now (a + 1)) (opens (call_now (a + 1))) (had + counts longest serves now w) (short (call_now (a + 1))) q
              (window_after c now i.first w)) (sym job)
              (shut_issues plant.switch longest most plant serves ph c now (owed_of debt) h.credit paid.spare n i.first (stated_now a)
              (opens (call_now a)) had (short (call_now a)) (job_now a) (short b.calls) (stated_now (a + 1)) (opens (call_now (a + 1)))
              (short (call_now (a + 1))) w refl l stated soon (λ y. paid.pays (same ∙ y)) le fresh kept
              (subst (λ q. MayShut plant.switch longest most q ph now h.credit i.first (stated_now a) (opens (call_now a)) had (short (call_now a)) (job_now a) w) (sym goes.kind) h.shuts))));
        }
