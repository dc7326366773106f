-- What the tasks of a run have been served: no more than their jobs are charged, with what is left of their scopes' credits.
use Rattle.std.specs.Prelude.{◌&&◌}
use Rattle.std.proofs.Common.{◌≡◌, ℕ, zero, suc, ◌+◌, ◌-◌, ◌<◌, ◌≤◌, refl, ap, ◌∙◌, sym, subst, arith, cond, eqb, true, false, Bool, Some, None, Option, List, [], ⊎_elim}
use Rattle.std.proofs.lemmas.Bool.{cases_eq, eq-eqb, ne_eqb}
use Rattle.prem_plant.specs.declared.plant.Plant.{Plant}
use Rattle.prem_plant.specs.Order.Order.{OrderRule}
use Rattle.prem_sched.specs.declared.sched.TaskJobs.{TaskJobs}
use Rattle.prem_sched.specs.declared.sched.Choice.TheVariants.{Run, Finished}
use Rattle.prem_sched.specs.Schedule.{choice, NoneReady}
use Rattle.prem_isa.specs.declared.effect.Phase.{Phase}
use Rattle.prem_isa.specs.declared.effect.Phase.TheVariants.{Compatible, Memory as MemoryPhase, Execution}
use Rattle.prem_isa.specs.declared.effect.Change.{Change}
use Rattle.prem_isa.specs.declared.effect.Change.TheVariants.{Stay, Memory, Execute, End, Job}
use Rattle.prem_isa.specs.Act.{phase_after}
use Rattle.prem_isa.specs.Bounds.{IsLawful}
use Rattle.prem_isa.specs.Plain.{TaskRun, Did, plain_did, plain_run}
use Rattle.prem_gate.specs.Gates.{wants}
use Rattle.prem_cycle.specs.declared.state.Mode.{Mode}
use Rattle.prem_cycle.specs.declared.state.Mode.TheVariants.{Point, Switching, Running, Idle}
use Rattle.prem_cycle.specs.declared.state.Interval.{Interval}
use Rattle.prem_cycle.specs.State.{Setup, Work, CoreState, Debt}
use Rattle.prem_cycle.specs.Core.{want_of, paid_on_bus, is_paid, CoreMove, Passes, Issues, is_predictable, new_interval, phase_in}
use Rattle.prem_cycle.specs.Cycle.{ends_before}
use Rattle.prem_cycle.proofs.CoreCases.{Continues, Closes, MoveCase, pays_on_bus, is_denied, pays_cost, waits, goes_on, switches, begins, chooses, chooses_now, begins_idle, has_finished, idles}
use Rattle.prem_cycle.proofs.RunsLemmas.PositionLemmas.Stands.{bump, bump_same, bump_other}
use Rattle.prem_cycle.proofs.RunsLemmas.PositionLemmas.Debts.{ArePositive, wants_none, none_wanted, PaysOne, pays_one, paid_none, paid_is}
use Rattle.prem_sound.specs.Script.Script.{Begun, begun_after, begun_by, Script, call_at, call_of}
use Rattle.prem_sound.specs.Paced.Paced.{within_job, within_stretch}
use Rattle.prem_sound.proofs.ScriptLemmas.Begins.{Executed, executed, next_phase, did_lawful}
use Rattle.prem_sound.proofs.ResidentLemmas.Residents.{Issued, with_stated, phase_at, begun_at, MayIssue, bump_run, bump_begun}
use Rattle.prem_sound.proofs.CallRuns.{begins_call, calls_after}
use Rattle.prem_sound.proofs.Lasts.{owed_of}
use Rattle.prem_sound.proofs.Spends.{kept_by}
use Rattle.prem_sound.specs.Scopes.Charged.{Scoping, within_scope, scope_with, scope_by, scope_at as lines_at, Charges, charges_by, own_charge, did_charge, job_with, job_charged}
use Rattle.prem_sound.specs.Scopes.Charged.{stretch_with, stretch_charged, IsCharged}
use Rattle.prem_sound.proofs.ScopesLemmas.ChargeRuns.{scope_by-next, job_charged-next, stretch_charged-next}
use Rattle.prem_sound.proofs.ScopesLemmas.Credits.{Backed, backed_none}
use Rattle.prem_resp.specs.Deadline.Timeline.{chosen_task, serves_in}
use Rattle.prem_resp.specs.Busy.Schedule.{Tasks, Schedule, is_task, one_if}
use Rattle.prem_resp.proofs.DeadlineLemmas.Choosing.{Reads, Since, later, chooses_since, idle_none}

-- ---- who is served

-- with this cycle
abbrev pub more : Option ℕ → (ℕ → ℕ) → ℕ → ℕ
more o had j = had j + one_if (is_task j o)

more_same : (k : ℕ) (had : ℕ → ℕ) → more (Some k) had k ≡ had k + 1
more_same k had = ap (λ b. had k + one_if b) (eq-eqb k k refl)

more_other : (k j : ℕ) (had : ℕ → ℕ) → (j ≡ k → ⊥) → more (Some k) had j ≡ had j
more_other k j had ne = let e : had j + one_if (eqb j k) ≡ had j + 0 = ap (λ b. had j + one_if b) (ne_eqb j k ne) in e ∙ omega arith

more_none : (j : ℕ) (had : ℕ → ℕ) → more None had j ≡ had j
more_none j had = omega arith

-- where a job ends, the next one has had nothing
abbrev pub left_of : Change → ℕ → ℕ
left_of Stay n = n
left_of Memory n = n
left_of (Execute stated) n = n
left_of End n = n
left_of Job n = 0

abbrev pub left_after : Change → ℕ → (ℕ → ℕ) → ℕ → ℕ
left_after mark k had j = cond (eqb j k) (left_of mark (had j)) (had j)

pub left_same : (mark : Change) (k : ℕ) (had : ℕ → ℕ) → left_after mark k had k ≡ left_of mark (had k)
left_same mark k had = ap (λ b. cond b (left_of mark (had k)) (had k)) (eq-eqb k k refl)

pub left_other : (mark : Change) (k j : ℕ) (had : ℕ → ℕ) → (j ≡ k → ⊥) → left_after mark k had j ≡ had j
left_other mark k j had ne = ap (λ b. cond b (left_of mark (had j)) (had j)) (ne_eqb j k ne)

-- the mode is a task's
abbrev pub IsOf : ℕ → Mode → Type 0
IsOf j Point = ⊥
IsOf j (Switching k left) = j ≡ k
IsOf j (Running k) = j ≡ k
IsOf j (Idle until) = ⊥

module _ (plant : Plant) (tasks : ℕ) (runs : ℕ → TaskRun) (scripts : ℕ → Script) (order : OrderRule) (scopings : ℕ → Scoping) (x : Tasks) (s : Schedule) where
  abbrev pub stated_at : (ℕ → ℕ) → ℕ → ℕ
  stated_at at j = (call_of (scripts j) (begun_at runs at j)).stated

  abbrev pub kept_at : (ℕ → ℕ) → ℕ → ℕ
  kept_at at j = kept_by plant.switch (phase_at runs at j) (stated_at at j)

  abbrev pub job_at : (ℕ → ℕ) → ℕ → ℕ
  job_at at j = job_charged plant (scripts j) (runs j) (charges_by plant (runs j) (scopings j)) (at j)

  abbrev pub stretch_at : (ℕ → ℕ) → ℕ → ℕ
  stretch_at at j = stretch_charged (runs j) (charges_by plant (runs j) (scopings j)) (at j)

  -- the lines of the scope in which a task stands
  abbrev pub scope_of : (ℕ → ℕ) → ℕ → List ℕ
  scope_of at j = scope_by (runs j) (scopings j) (at j)

  -- a compatible interval is within its stretch
  abbrev pub InStretch : Change → (now owed credit first stretch longest : ℕ) → Type 0
  InStretch Stay now owed credit first stretch longest = now + owed + credit ≤ first + stretch
  InStretch (Execute stated) now owed credit first stretch longest = now + owed + credit ≤ first + stretch
  InStretch Memory now owed credit first stretch longest = now + owed + plant.switch ≤ first + longest
  InStretch End now owed credit first stretch longest = Unit {0}
  InStretch Job now owed credit first stretch longest = now + owed + plant.switch ≤ first + longest

  -- in an interval that is predictable or not, a task has had no more than its job is charged, without its scope's credit
  abbrev pub HasHad : Bool → Change → (now owed credit first stated had kept job cost : ℕ) → Type 0
  HasHad false Stay now owed credit first stated had kept job cost = had + owed + credit + kept ≤ plant.switch + job
  HasHad false (Execute l) now owed credit first stated had kept job cost = had + owed + credit + kept ≤ plant.switch + job
  HasHad false Memory now owed credit first stated had kept job cost = had + owed + kept ≤ job
  HasHad false End now owed credit first stated had kept job cost = Unit {0}
  HasHad false Job now owed credit first stated had kept job cost = had + owed ≤ cost
  HasHad true Stay now owed credit first stated had kept job cost = had + first + kept ≤ plant.switch + job + now
  HasHad true (Execute l) now owed credit first stated had kept job cost = had + first + kept ≤ plant.switch + job + now
  HasHad true Memory now owed credit first stated had kept job cost = Unit {0}
  HasHad true End now owed credit first stated had kept job cost = had + first + stated + kept ≤ job + now
  HasHad true Job now owed credit first stated had kept job cost = Unit {0}

  abbrev pub MayHave : Bool → (now credit first had kept job : ℕ) → Type 0
  MayHave false now credit first had kept job = had + credit + kept ≤ plant.switch + job
  MayHave true now credit first had kept job = had + first + kept ≤ plant.switch + job + now

  -- ---- a state

  pub record InRun (now : ℕ) (had : ℕ → ℕ) (at : ℕ → ℕ) (orders : List (List ℕ)) (sched : List TaskJobs) (k : ℕ) (i : Interval) (mark : Change) (debt : Debt) : Type 0 where
    pub since : Since x s tasks now sched k
    pub lasts : i.first ≤ since.chosen + plant.switch
    pub credit : ℕ
    pub backed : i.predictable ≡ false → Backed order plant orders (scope_of at k) credit
    pub over : Closes mark → scope_of at k ≡ []
    pub pace : i.predictable ≡ false → InStretch mark now (owed_of debt) credit i.first (stretch_at at k) (x.longest k)
    pub has_had : HasHad i.predictable mark now (owed_of debt) credit i.first i.stated (had k) (kept_at at k) (job_at at k) (x.cost k)

  pub record InSwitch (now : ℕ) (had : ℕ → ℕ) (at : ℕ → ℕ) (sched : List TaskJobs) (k left : ℕ) : Type 0 where
    pub since : Since x s tasks now sched k
    pub lasts : now + left ≤ since.chosen + plant.switch
    pub has_had : had k + left + kept_at at k ≤ plant.switch + job_at at k

  abbrev pub Current : (now : ℕ) (had : ℕ → ℕ) (at : ℕ → ℕ) (orders : List (List ℕ)) (sched : List TaskJobs) → Mode → Interval → Change → Debt → Type 0
  Current now had at orders sched Point i mark debt = debt.transactions ≡ []
  Current now had at orders sched (Switching k left) i mark debt = InSwitch now had at sched k left × (debt.transactions ≡ [])
  Current now had at orders sched (Running k) i mark debt = InRun now had at orders sched k i mark debt
  Current now had at orders sched (Idle until) i mark debt = ((v : ℕ) → v < until → NoneReady v sched) × (debt.transactions ≡ [])

  -- each other task has had no more than its job is charged, with what is kept for its call
  abbrev pub AreHeld : (ℕ → ℕ) → (ℕ → ℕ) → Mode → Type 0
  AreHeld had at mode = (j : ℕ) → j < tasks → (IsOf j mode → ⊥) → had j + kept_at at j ≤ job_at at j

  -- a task that doesn't run stands in no scope
  abbrev pub AreFresh : (ℕ → ℕ) → Mode → Type 0
  AreFresh at mode = (j : ℕ) → j < tasks → (mode ≡ Running j → ⊥) → scope_of at j ≡ []

  pub record Booked (now : ℕ) (had : ℕ → ℕ) (at : ℕ → ℕ) (orders : List (List ℕ)) (sched : List TaskJobs) (mode : Mode) (i : Interval) (mark : Change) (debt : Debt) : Type 0 where
    pub current : Current now had at orders sched mode i mark debt
    pub held : AreHeld had at mode
    pub fresh : AreFresh at mode

  -- a task is to issue
  pub record MayRun (now : ℕ) (had : ℕ → ℕ) (at : ℕ → ℕ) (orders : List (List ℕ)) (sched : List TaskJobs) (k : ℕ) (i : Interval) : Type 0 where
    pub since : Since x s tasks (now + 1) sched k
    pub lasts : i.first ≤ since.chosen + plant.switch
    pub credit : ℕ
    pub backed : i.predictable ≡ false → Backed order plant orders (scope_of at k) credit
    pub pace : i.predictable ≡ false → now + credit ≤ i.first + stretch_at at k
    pub may_have : MayHave i.predictable now credit i.first (had k) (kept_at at k) (job_at at k)
    pub held : AreHeld had at (Running k)
    pub fresh : AreFresh at (Running k)

  abbrev pub BookMove : (now : ℕ) (o : Option ℕ) (had : ℕ → ℕ) (at : ℕ → ℕ) (orders : List (List ℕ)) (sched : List TaskJobs) → CoreMove → Type 0
  BookMove now o had at orders sched (Passes c) = Booked (now + 1) (more o had) at orders sched c.mode c.interval c.mark c.debt
  BookMove now o had at orders sched (Issues k i) = (o ≡ Some k) × MayRun now had at orders sched k i

  -- ---- the move

  module _ (now : ℕ) (had : ℕ → ℕ) (at : ℕ → ℕ) (orders : List (List ℕ)) (sched : List TaskJobs) where
    held_on : (k : ℕ) (mode mode' : Mode) → ((j : ℕ) → (IsOf j mode' → ⊥) → (j ≡ k → ⊥)) → ((j : ℕ) → (IsOf j mode' → ⊥) → IsOf j mode → ⊥) → AreHeld had at mode → AreHeld (more (Some k) had) at mode'
    held_on k mode mode' ne not h j lt out = omega (arith, more_other k j had (ne j out), h j lt (not j out))

    fresh_on : (mode mode' : Mode) → ((j : ℕ) → (mode' ≡ Running j → ⊥) → mode ≡ Running j → ⊥) → AreFresh at mode → AreFresh at mode'
    fresh_on mode mode' not h j lt out = h j lt (not j out)

    switching_runs : (k left j : ℕ) → Switching k left ≡ Running j → ⊥
    switching_runs k left j e = let z : Switching k left ≡ Running j = e in cc

    point_runs : (j : ℕ) → Point ≡ Running j → ⊥
    point_runs j e = let z : Point ≡ Running j = e in cc

    idle_runs : (until j : ℕ) → Idle until ≡ Running j → ⊥
    idle_runs until j e = let z : Idle until ≡ Running j = e in cc

    held_idle : (mode mode' : Mode) → ((j : ℕ) → IsOf j mode → ⊥) → AreHeld had at mode → AreHeld (more None had) at mode'
    held_idle mode mode' not h j lt out = omega (arith, more_none j had, h j lt (not j))

    stretch_on : (mark : Change) (owed owed' credit first stretch longest : ℕ) → now + 1 + owed' ≤ now + owed →
        InStretch mark now owed credit first stretch longest → InStretch mark (now + 1) owed' credit first stretch longest
    stretch_on Stay owed owed' credit first stretch longest le h = omega (arith, le, h)
    stretch_on (Execute stated) owed owed' credit first stretch longest le h = omega (arith, le, h)
    stretch_on Memory owed owed' credit first stretch longest le h = omega (arith, le, h)
    stretch_on End owed owed' credit first stretch longest le h = tt
    stretch_on Job owed owed' credit first stretch longest le h = omega (arith, le, h)

    had_on : (b : Bool) (mark : Change) (owed owed' credit first stated h0 kept job cost : ℕ) → now + 1 + owed' ≤ now + owed →
        HasHad b mark now owed credit first stated h0 kept job cost → HasHad b mark (now + 1) owed' credit first stated (h0 + 1) kept job cost
    had_on false Stay owed owed' credit first stated h0 kept job cost le h = omega (arith, le, h)
    had_on false (Execute l) owed owed' credit first stated h0 kept job cost le h = omega (arith, le, h)
    had_on false Memory owed owed' credit first stated h0 kept job cost le h = omega (arith, le, h)
    had_on false End owed owed' credit first stated h0 kept job cost le h = tt
    had_on false Job owed owed' credit first stated h0 kept job cost le h = omega (arith, le, h)
    had_on true Stay owed owed' credit first stated h0 kept job cost le h = omega (arith, h)
    had_on true (Execute l) owed owed' credit first stated h0 kept job cost le h = omega (arith, h)
    had_on true Memory owed owed' credit first stated h0 kept job cost le h = tt
    had_on true End owed owed' credit first stated h0 kept job cost le h = omega (arith, h)
    had_on true Job owed owed' credit first stated h0 kept job cost le h = tt

    -- it pays
    pays : (k : ℕ) (i : Interval) (mark : Change) (debt debt' : Debt) → now + 1 + owed_of debt' ≤ now + owed_of debt →
        Booked now had at orders sched (Running k) i mark debt → Booked (now + 1) (more (Some k) had) at orders sched (Running k) i mark debt'
    pays k i mark debt debt' le h = record {
      current = record {
        since = later x s tasks now sched k h.current.since;
        lasts = h.current.lasts;
        credit = h.current.credit;
        backed = h.current.backed;
        over = h.current.over;
        pace = λ e. stretch_on mark (owed_of debt) (owed_of debt') h.current.credit i.first (stretch_at at k) (x.longest k) le (h.current.pace e);
        has_had = subst (λ n. HasHad i.predictable mark (now + 1) (owed_of debt') h.current.credit i.first i.stated n (kept_at at k) (job_at at k) (x.cost k)) (sym (more_same k had))
            (had_on i.predictable mark (owed_of debt) (owed_of debt') h.current.credit i.first i.stated (had k) (kept_at at k) (job_at at k) (x.cost k) le h.current.has_had);
      };
      held = held_on k (Running k) (Running k) (λ j out. out) (λ j out. out) h.held;
      fresh = h.fresh;
    }

    -- it waits for its end
    waits_on : (b : Bool) (i : Interval) (mark : Change) (owed credit first stated h0 kept job cost : ℕ) → Closes mark →
        (b ≡ false → mark ≡ End → ⊥) → ends_before now i mark ≡ false → HasHad b mark now owed credit first stated h0 kept job cost →
        HasHad b mark (now + 1) owed credit first stated (h0 + 1) kept job cost
    waits_on b i Stay owed credit first stated h0 kept job cost y no_end e h = absurd y
    waits_on b i (Execute l) owed credit first stated h0 kept job cost y no_end e h = absurd y
    waits_on b i Memory owed credit first stated h0 kept job cost y no_end e h = absurd (let z : true ≡ false = e in cc)
    waits_on b i Job owed credit first stated h0 kept job cost y no_end e h = absurd (let z : true ≡ false = e in cc)
    waits_on false i End owed credit first stated h0 kept job cost y no_end e h = absurd (no_end refl refl)
    waits_on true i End owed credit first stated h0 kept job cost y no_end e h = omega (arith, h)

    waits_stretch : (i : Interval) (mark : Change) (owed credit first stretch longest : ℕ) → Closes mark → (mark ≡ End → ⊥) →
        ends_before now i mark ≡ false → InStretch mark (now + 1) owed credit first stretch longest
    waits_stretch i Stay owed credit first stretch longest y no_end e = absurd y
    waits_stretch i (Execute l) owed credit first stretch longest y no_end e = absurd y
    waits_stretch i Memory owed credit first stretch longest y no_end e = absurd (let z : true ≡ false = e in cc)
    waits_stretch i Job owed credit first stretch longest y no_end e = absurd (let z : true ≡ false = e in cc)
    waits_stretch i End owed credit first stretch longest y no_end e = tt

    waited : (k : ℕ) (i : Interval) (mark : Change) (debt : Debt) → Closes mark → (i.predictable ≡ false → mark ≡ End → ⊥) →
        ends_before now i mark ≡ false → Booked now had at orders sched (Running k) i mark debt →
        Booked (now + 1) (more (Some k) had) at orders sched (Running k) i mark debt
    waited k i mark debt y no_end over h = record {
      current = record {
        since = later x s tasks now sched k h.current.since;
        lasts = h.current.lasts;
        credit = h.current.credit;
        backed = h.current.backed;
        over = h.current.over;
        pace = λ e. waits_stretch i mark (owed_of debt) h.current.credit i.first (stretch_at at k) (x.longest k) y (no_end e) over;
        has_had = subst (λ n. HasHad i.predictable mark (now + 1) (owed_of debt) h.current.credit i.first i.stated n (kept_at at k) (job_at at k) (x.cost k)) (sym (more_same k had))
            (waits_on i.predictable i mark (owed_of debt) h.current.credit i.first i.stated (had k) (kept_at at k) (job_at at k) (x.cost k) y no_end over h.current.has_had);
      };
      held = held_on k (Running k) (Running k) (λ j out. out) (λ j out. out) h.held;
      fresh = h.fresh;
    }

    -- it goes on
    goes_had : (b : Bool) (mark : Change) (owed credit first stated h0 kept job cost : ℕ) → Continues mark →
        HasHad b mark now owed credit first stated h0 kept job cost → MayHave b now credit first h0 kept job
    goes_had false Stay owed credit first stated h0 kept job cost g h = omega (arith, h)
    goes_had false (Execute l) owed credit first stated h0 kept job cost g h = omega (arith, h)
    goes_had true Stay owed credit first stated h0 kept job cost g h = h
    goes_had true (Execute l) owed credit first stated h0 kept job cost g h = h
    goes_had b Memory owed credit first stated h0 kept job cost g h = absurd g
    goes_had b End owed credit first stated h0 kept job cost g h = absurd g
    goes_had b Job owed credit first stated h0 kept job cost g h = absurd g

    goes_stretch : (mark : Change) (owed credit first stretch longest : ℕ) → Continues mark → InStretch mark now owed credit first stretch longest → now + credit ≤ first + stretch
    goes_stretch Stay owed credit first stretch longest g h = omega (arith, h)
    goes_stretch (Execute l) owed credit first stretch longest g h = omega (arith, h)
    goes_stretch Memory owed credit first stretch longest g h = absurd g
    goes_stretch End owed credit first stretch longest g h = absurd g
    goes_stretch Job owed credit first stretch longest g h = absurd g

    goes : (k : ℕ) (i : Interval) (mark : Change) (debt : Debt) → Continues mark → Booked now had at orders sched (Running k) i mark debt → MayRun now had at orders sched k i
    goes k i mark debt g h = record {
      since = later x s tasks now sched k h.current.since;
      lasts = h.current.lasts;
      credit = h.current.credit;
      backed = h.current.backed;
      pace = λ e. goes_stretch mark (owed_of debt) h.current.credit i.first (stretch_at at k) (x.longest k) g (h.current.pace e);
      may_have = goes_had i.predictable mark (owed_of debt) h.current.credit i.first i.stated (had k) (kept_at at k) (job_at at k) (x.cost k) g h.current.has_had;
      held = h.held;
      fresh = h.fresh;
    }

    -- an interval begins in this cycle
    begins_had : (b : Bool) (h0 kept job : ℕ) → h0 + kept ≤ plant.switch + job → MayHave b now 0 now h0 kept job
    begins_had false h0 kept job h = omega (arith, h)
    begins_had true h0 kept job h = omega (arith, h)

    begun : (k : ℕ) (phase : Phase) (c : Since x s tasks (now + 1) sched k) → now ≤ c.chosen + plant.switch →
        had k + kept_at at k ≤ plant.switch + job_at at k → AreHeld had at (Running k) → AreFresh at Point →
        MayRun now had at orders sched k (new_interval now phase)
    begun k phase c le h held fresh = record {
      since = c;
      lasts = le;
      credit = 0;
      backed = λ e. subst (λ lines. Backed order plant orders lines 0) (sym (fresh k c.there (point_runs k))) (backed_none order plant orders);
      pace = λ e. omega arith;
      may_have = begins_had (is_predictable phase) (had k) (kept_at at k) (job_at at k) h;
      held = held;
      fresh = λ j lt out. fresh j lt (point_runs j);
    }

    -- only an interval owes transactions
    owes_running : (m : Mode) (i : Interval) (mark : Change) (debt : Debt) → Current now had at orders sched m i mark debt → wants (want_of debt) ≡ true → (k : ℕ) × (m ≡ Running k)
    owes_running Point i mark debt h w = absurd (let z : false ≡ true = sym (wants_none debt h) ∙ w in cc)
    owes_running (Switching k left) i mark debt h w = absurd (let z : false ≡ true = sym (wants_none debt h.1) ∙ w in cc)
    owes_running (Running k) i mark debt h w = (k, refl)
    owes_running (Idle until) i mark debt h w = absurd (let z : false ≡ true = sym (wants_none debt h.1) ∙ w in cc)

    abbrev BookedIn : Mode → CoreState → Type 0
    BookedIn m c = Booked now had at orders sched m c.interval c.mark c.debt

    -- while a task runs
    run_on : (k : ℕ) (c : CoreState) (debt : Debt) → c.mode ≡ Running k → now + 1 + owed_of debt ≤ now + owed_of c.debt → BookedIn c.mode c →
        Booked (now + 1) (more (serves_in now sched c.mode) had) at orders sched c.mode c.interval c.mark debt
    run_on k c debt e le h =
        subst (λ m. BookedIn m c → Booked (now + 1) (more (serves_in now sched m) had) at orders sched m c.interval c.mark debt) (sym e) (λ t. pays k c.interval c.mark c.debt debt le t) h

    serves_run : (k : ℕ) → choice now sched ≡ Run k → (m : Mode) → m ≡ Point → serves_in now sched m ≡ Some k
    serves_run k e m f = ap (serves_in now sched) f ∙ ap chosen_task e

    pub moves_booked : (p : Setup) (bus : Bool) (w : Work) (c : CoreState) (m : CoreMove) → p.plant.switch ≡ plant.switch →
        MoveCase p now bus sched w c m → ArePositive c.debt.transactions → (wants (want_of c.debt) ≡ true → bus ≡ true) →
        ((k : ℕ) → c.mode ≡ Running k → (is_paid c.debt && ends_before now c.interval c.mark) ≡ false) →
        ((k : ℕ) → c.mode ≡ Running k → c.interval.predictable ≡ false → c.mark ≡ End → ⊥) → (c.mode ≡ Point → choice now sched ≡ Finished → ⊥) →
        Reads x s tasks now sched → BookedIn c.mode c → BookMove now (serves_in now sched c.mode) had at orders sched m
    moves_booked p bus w c _ sw (pays_on_bus q h) pos serves on no_end unfinished reads r =
        let y : PaysOne c.debt (paid_on_bus c.debt.transactions c.debt) = pays_one c.debt pos q in
        let k : (k : ℕ) × (c.mode ≡ Running k) = owes_running c.mode c.interval c.mark c.debt r.current q in
        run_on k.0 c (paid_on_bus c.debt.transactions c.debt) k.1 (omega (arith, y.less, y.cost)) r
    moves_booked p bus w c _ sw (is_denied q h) pos serves on no_end unfinished reads r = absurd (let z : false ≡ true = sym h ∙ serves q in cc)
    moves_booked p bus w c _ sw (pays_cost k cost q e h) pos serves on no_end unfinished reads r = run_on k c (record c.debt { cost = cost }) e (omega (arith, h)) r
    moves_booked p bus w c _ sw (waits k q e h y) pos serves on no_end unfinished reads r =
        let paid : is_paid c.debt ≡ true = paid_is c.debt (none_wanted c.debt q) h in
        let over : ends_before now c.interval c.mark ≡ false = sym (ap (λ b. b && ends_before now c.interval c.mark) paid) ∙ on k e in
        subst (λ m. BookedIn m c → Booked (now + 1) (more (serves_in now sched m) had) at orders sched m c.interval c.mark c.debt) (sym e)
        (λ t. waited k c.interval c.mark c.debt y (no_end k e) over t) r
    moves_booked p bus w c _ sw (goes_on k q e h y) pos serves on no_end unfinished reads r =
        (ap (serves_in now sched) e, goes k c.interval c.mark c.debt y (subst (λ m. BookedIn m c) e r))
    moves_booked p bus w c _ sw (switches k left q e) pos serves on no_end unfinished reads r =
        let t : BookedIn (Switching k (suc left)) c = subst (λ m. BookedIn m c) e r in
        let i : InSwitch now had at sched k (suc left) = t.current.0 in
        subst (λ o. Booked (now + 1) (more o had) at orders sched (Switching k left) c.interval c.mark c.debt) (sym (ap (serves_in now sched) e))
        (record {
          current = (
            record {
              since = later x s tasks now sched k i.since;
              lasts = (let z : now + suc left ≤ i.since.chosen + plant.switch = i.lasts in omega arith);
              has_had = (let z : had k + suc left + kept_at at k ≤ plant.switch + job_at at k = i.has_had in omega (arith, more_same k had));
            },
            t.current.1,
          );
          held = held_on k (Switching k (suc left)) (Switching k left) (λ j out. out) (λ j out. out) t.held;
          fresh = fresh_on (Switching k (suc left)) (Switching k left) (λ j _. switching_runs k (suc left) j) t.fresh;
        })
    moves_booked p bus w c _ sw (begins k q e) pos serves on no_end unfinished reads r =
        let t : BookedIn (Switching k zero) c = subst (λ m. BookedIn m c) e r in
        let i : InSwitch now had at sched k zero = t.current.0 in (
          ap (serves_in now sched) e,
          begun k (phase_in w k) (later x s tasks now sched k i.since) (let z : now + 0 ≤ i.since.chosen + plant.switch = i.lasts in omega arith)
              (let z : had k + 0 + kept_at at k ≤ plant.switch + job_at at k = i.has_had in omega arith) t.held (fresh_on (Switching k zero) Point (λ j _. switching_runs k zero j) t.fresh),
        )
    moves_booked p bus w c _ sw (chooses k left q e h z) pos serves on no_end unfinished reads r =
        let t : BookedIn Point c = subst (λ m. BookedIn m c) e r in
        let ch : Since x s tasks (now + 1) sched k = chooses_since x s tasks now sched k reads h in
        let own : had k + kept_at at k ≤ job_at at k = t.held k ch.there (λ y. y) in
        subst (λ o. Booked (now + 1) (more o had) at orders sched (Switching k left) c.interval c.mark c.debt) (sym (serves_run k h c.mode e))
        (record {
          current = (
            record {
              since = ch;
              lasts = omega (arith, z, sw);
              has_had = omega (arith, own, more_same k had, z, sw);
            },
            t.current,
          );
          held = held_on k Point (Switching k left) (λ j out. out) (λ j out y. y) t.held;
          fresh = fresh_on Point (Switching k left) (λ j _. point_runs j) t.fresh;
        })
    moves_booked p bus w c _ sw (chooses_now k q e h z) pos serves on no_end unfinished reads r =
        let t : BookedIn Point c = subst (λ m. BookedIn m c) e r in
        let ch : Since x s tasks (now + 1) sched k = chooses_since x s tasks now sched k reads h in
        let own : had k + kept_at at k ≤ job_at at k = t.held k ch.there (λ y. y) in
        (serves_run k h c.mode e, begun k (phase_in w k) ch (omega arith) (omega (arith, own)) (λ j lt out. t.held j lt (λ y. y)) t.fresh)
    moves_booked p bus w c _ sw (begins_idle until q e h) pos serves on no_end unfinished reads r =
        let t : BookedIn Point c = subst (λ m. BookedIn m c) e r in
        subst (λ o. Booked (now + 1) (more o had) at orders sched (Idle until) c.interval c.mark c.debt) (sym (ap (serves_in now sched) e ∙ ap chosen_task h))
        (record {
          current = (idle_none now sched until reads.periods h, t.current);
          held = held_idle Point (Idle until) (λ j y. y) t.held;
          fresh =
              fresh_on Point (Idle until) (λ j _. point_runs j) t.fresh;
        })
    moves_booked p bus w c _ sw (has_finished q e h) pos serves on no_end unfinished reads r = absurd (unfinished e h)
    moves_booked p bus w c _ sw (idles until q e) pos serves on no_end unfinished reads r =
        subst (λ m. BookedIn m c → Booked (now + 1) (more (serves_in now sched m) had) at orders sched m c.interval c.mark c.debt) (sym e)
        (λ t. record { current = t.current; held = held_idle (Idle until) (Idle until) (λ j y. y) t.held; fresh = t.fresh }) r

    -- ---- an instruction

    issued_had : (ph : Phase) (c : Change) (d : Did) (i : Interval) (owed credit spare charge h0 job cost stated next stated' : ℕ) → IsLawful ph c →
        d.change ≡ c → (ph ≡ Execution → i.stated ≡ stated) → (ph ≡ Compatible → owed + 1 + spare ≤ credit + charge) →
        job + did_charge plant next ph c charge ≤ cost → (c ≡ Memory → stated' ≡ next) → (begins_call c ≡ 0 → stated' ≡ stated) →
        MayHave (is_predictable ph) now credit i.first h0 (kept_by plant.switch ph stated) job →
        HasHad (is_predictable ph) c (now + 1) owed spare i.first (with_stated c i).stated (h0 + 1)
        (kept_by plant.switch (phase_after c ph) stated') (within_job c (job + did_charge plant next ph c charge)) cost
    issued_had Compatible Stay d i owed credit spare charge h0 job cost stated next stated' l ch st pay most km ks h =
        omega (arith, pay refl, h)
    issued_had Compatible Memory d i owed credit spare charge h0 job cost stated next stated' l ch st pay most km ks h =
        omega (arith, pay refl, km refl, h)
    issued_had Compatible Job d i owed credit spare charge h0 job cost stated next stated' l ch st pay most km ks h =
        omega (arith, pay refl, most, h)
    issued_had Compatible (Execute t) d i owed credit spare charge h0 job cost stated next stated' l ch st pay most km ks h = absurd (let y : Compatible ≡ MemoryPhase = l in cc)
    issued_had Compatible End d i owed credit spare charge h0 job cost stated next stated' l ch st pay most km ks h = absurd (let y : Compatible ≡ Execution = l in cc)
    issued_had MemoryPhase Stay d i owed credit spare charge h0 job cost stated next stated' l ch st pay most km ks h = omega (arith, ks refl, h)
    issued_had MemoryPhase (Execute t) d i owed credit spare charge h0 job cost stated next stated' l ch st pay most km ks h = omega (arith, ks refl, h)
    issued_had MemoryPhase Memory d i owed credit spare charge h0 job cost stated next stated' l ch st pay most km ks h = absurd (let y : MemoryPhase ≡ Compatible = l in cc)
    issued_had MemoryPhase End d i owed credit spare charge h0 job cost stated next stated' l ch st pay most km ks h = absurd (let y : MemoryPhase ≡ Execution = l in cc)
    issued_had MemoryPhase Job d i owed credit spare charge h0 job cost stated next stated' l ch st pay most km ks h = absurd (let y : MemoryPhase ≡ Compatible = l in cc)
    issued_had Execution Stay d i owed credit spare charge h0 job cost stated next stated' l ch st pay most km ks h = omega (arith, ks refl, h)
    issued_had Execution End d i owed credit spare charge h0 job cost stated next stated' l ch st pay most km ks h = omega (arith, st refl, h)
    issued_had Execution (Execute t) d i owed credit spare charge h0 job cost stated next stated' l ch st pay most km ks h = absurd (let y : Execution ≡ MemoryPhase = l in cc)
    issued_had Execution Memory d i owed credit spare charge h0 job cost stated next stated' l ch st pay most km ks h = absurd (let y : Execution ≡ Compatible = l in cc)
    issued_had Execution Job d i owed credit spare charge h0 job cost stated next stated' l ch st pay most km ks h = absurd (let y : Execution ≡ Compatible = l in cc)

    issued_stretch : (ph : Phase) (c : Change) (d : Did) (owed credit spare charge first stretch longest : ℕ) → is_predictable ph ≡ false →
        IsLawful ph c → (ph ≡ Compatible → owed + 1 + spare ≤ credit + charge) → (ph ≡ Compatible → plant.switch + stretch + charge ≤ longest) →
        now + credit ≤ first + stretch → InStretch c (now + 1) owed spare first (within_stretch c (stretch + own_charge ph charge)) longest
    issued_stretch MemoryPhase c d owed credit spare charge first stretch longest none l pay most h = absurd (let y : true ≡ false = none in cc)
    issued_stretch Execution c d owed credit spare charge first stretch longest none l pay most h = absurd (let y : true ≡ false = none in cc)
    issued_stretch Compatible Stay d owed credit spare charge first stretch longest none l pay most h = omega (arith, pay refl, h)
    issued_stretch Compatible Memory d owed credit spare charge first stretch longest none l pay most h = omega (arith, pay refl, most refl, h)
    issued_stretch Compatible (Execute t) d owed credit spare charge first stretch longest none l pay most h = omega (arith, pay refl, h)
    issued_stretch Compatible End d owed credit spare charge first stretch longest none l pay most h = tt
    issued_stretch Compatible Job d owed credit spare charge first stretch longest none l pay most h = omega (arith, pay refl, most refl, h)

    same_call : (sc : Script) (b b' : Begun) → b'.calls ≡ b.calls → (call_of sc b').stated ≡ (call_of sc b).stated
    same_call sc b b' e = ap (λ n. (call_at sc (n - 1)).stated) e

    next_call : (sc : Script) (b b' : Begun) → b'.calls ≡ b.calls + 1 → (call_of sc b').stated ≡ (call_at sc b.calls).stated
    next_call sc b b' e = let y : b'.calls - 1 ≡ b.calls = omega (arith, e) in ap (λ n. (call_at sc n).stated) y

    one_call : (c : Change) → c ≡ Memory → begins_call c ≡ 1
    one_call c e = ap begins_call e

    -- what an instruction leaves of a credit, and that it is paid for
    pub record Paid (orders' : List (List ℕ)) (k : ℕ) (d : Did) (owed credit charge : ℕ) : Type 0 where
      pub spare : ℕ
      pub backed : d.phase ≡ Compatible → Backed order plant orders' (scope_of (bump k at) k) spare
      pub pays : d.phase ≡ Compatible → owed + 1 + spare ≤ credit + charge

    over_scope : (c : Change) (lines : List ℕ) → Closes c → within_scope c lines ≡ []
    over_scope Stay lines y = absurd y
    over_scope (Execute t) lines y = absurd y
    over_scope Memory lines y = refl
    over_scope End lines y = refl
    over_scope Job lines y = refl

    calm_phase : (ph : Phase) → is_predictable ph ≡ false → ph ≡ Compatible
    calm_phase Compatible e = refl
    calm_phase MemoryPhase e = absurd (let z : true ≡ false = e in cc)
    calm_phase Execution e = absurd (let z : true ≡ false = e in cc)

    -- the scope behind an instruction
    pub scope_next : (k : ℕ) (d : Did) → plain_did (runs k) (plain_run (runs k) (at k)) ≡ Some d → scope_of (bump k at) k ≡ within_scope d.change (lines_at (runs k) (scopings k) (at k))
    scope_next k d e =
        ap (scope_by (runs k) (scopings k)) (bump_same k at) ∙ scope_by-next (runs k) (scopings k) (at k) ∙ ap (λ o. scope_with o (lines_at (runs k) (scopings k) (at k))) e

    pub book_issues : (orders' : List (List ℕ)) (k : ℕ) (i : Interval) (d : Did) (debt : Debt) → k < tasks →
        plain_did (runs k) (plain_run (runs k) (at k)) ≡ Some d → MayIssue order plant tasks runs scripts at orders k i →
        IsCharged plant (runs k) (scripts k) (charges_by plant (runs k) (scopings k)) (x.cost k) (x.longest k) →
        (h : MayRun now had at orders sched k i) → Paid orders' k d (owed_of debt) h.credit (charges_by plant (runs k) (scopings k) (at k) d) →
        Booked (now + 1) (more (Some k) had) (bump k at) orders' sched (Running k) (with_stated d.change i) d.change debt
    book_issues orders' k i d debt lt e may charged h paid =
        let b : Begun = begun_at runs at k in
        let sc : Script = scripts k in
        let ph : Phase = phase_at runs at k in
        let c : Change = d.change in
        let charge : Charges = charges_by plant (runs k) (scopings k) in
        let n : ℕ = charge (at k) d in
        let ex : Executed (runs k) (plain_run (runs k) (at k)) d = executed (runs k) (plain_run (runs k) (at k)) d e in
        let same : d.phase ≡ ph = ap (λ (f : Did). f.phase) ex.did_is in
        let l : IsLawful ph c = did_lawful (runs k) (plain_run (runs k) (at k)) d ex in
        let next : phase_at runs (bump k at) k ≡ phase_after c ph = ap (λ q. q.task.phase) (bump_run order plant tasks runs scripts at orders k)
        ∙ next_phase (runs k) (plain_run (runs k) (at k)) d ex in
        let after : begun_at runs (bump k at) k ≡ begun_after c d b = bump_begun order plant tasks runs scripts at orders k d e in
        let calls : (begun_at runs (bump k at) k).calls ≡ b.calls + begins_call c = ap (λ (y : Begun). y.calls) after ∙ calls_after c d b in
        let following : ℕ = (call_at sc b.calls).stated in
        let job : job_at (bump k at) k ≡ within_job c (job_at at k + did_charge plant following ph c n) =
        ap (job_charged plant sc (runs k) charge) (bump_same k at) ∙ job_charged-next plant sc (runs k) charge (at k) ∙ ap (λ o. job_with plant sc b charge (at k) o (job_at at k)) e
        ∙ ap (λ q. within_job c (job_at at k + did_charge plant following q c n)) same in
        let stretch : stretch_at (bump k at) k ≡ within_stretch c (stretch_at at k + own_charge ph n) =
        ap (stretch_charged (runs k) charge) (bump_same k at) ∙ stretch_charged-next (runs k) charge (at k) ∙ ap (λ o. stretch_with charge (at k) o (stretch_at at k)) e
        ∙ ap (λ q. within_stretch c (stretch_at at k + own_charge q n)) same in
        let owed : ℕ = owed_of debt in
        record {
          current = record {
            since = h.since;
            lasts = h.lasts;
            credit = paid.spare;
            backed = λ none. paid.backed (same ∙ calm_phase ph (may.goes.kind ∙ none));
            over = λ y. scope_next k d e ∙ over_scope c (lines_at (runs k) (scopings k) (at k)) y;
            pace = λ none.
                subst (λ m. InStretch c (now + 1) owed paid.spare i.first m (x.longest k)) (sym stretch)
                (issued_stretch ph c d owed h.credit paid.spare n i.first (stretch_at at k) (x.longest k) (may.goes.kind ∙ none) l
                (λ y. paid.pays (same ∙ y)) (λ y. charged.stretches (at k) d e (same ∙ y)) (h.pace none));
            has_had =
                subst (λ q. HasHad q c (now + 1) owed paid.spare i.first (with_stated c i).stated (more (Some k) had k) (kept_at (bump k at) k) (job_at (bump k at) k) (x.cost k)) may.goes.kind
                (subst (λ m. HasHad (is_predictable ph) c (now + 1) owed paid.spare i.first (with_stated c i).stated m (kept_at (bump k at) k)
                (job_at (bump k at) k) (x.cost k)) (sym (more_same k had))
                (subst (λ m. HasHad (is_predictable ph) c (now + 1) owed paid.spare i.first (with_stated c i).stated (had k + 1) (kept_at (bump k at) k) m (x.cost k)) (sym job)
                (subst (λ q. HasHad (is_predictable ph) c (now + 1) owed paid.spare i.first (with_stated c i).stated (had k + 1)
                (kept_by plant.switch q (stated_at (bump k at) k)) (within_job c (job_at at k + did_charge plant following ph c n)) (x.cost k)) (sym next)
                (issued_had ph c d i owed h.credit paid.spare n (had k) (job_at at k) (x.cost k) (stated_at at k) following (stated_at (bump k at) k) l refl may.goes.opened (λ y. paid.pays (same ∙ y))
                (subst (λ q. job_at at k + did_charge plant following q c n ≤ x.cost k) same (charged.jobs (at k) d e))
                (λ m. next_call sc b (begun_at runs (bump k at) k) (calls ∙ ap (λ v. b.calls + v) (one_call c m)))
                (λ z. same_call sc b (begun_at runs (bump k at) k) (omega (arith, calls, z)))
                (subst (λ q. MayHave q now h.credit i.first (had k) (kept_at at k) (job_at at k)) (sym may.goes.kind) h.may_have)))));
          };
          held = λ j lj out.
              let y : had j + kept_at at j ≤ job_at at j = h.held j lj out in
              let a : kept_at (bump k at) j ≡ kept_at at j =
              ap (λ m. kept_by plant.switch (plain_run (runs j) m).task.phase (call_of (scripts j) (begun_by (runs j) m)).stated) (bump_other k j at out) in
              let z : job_at (bump k at) j ≡ job_at at j = ap (job_charged plant (scripts j) (runs j) (charges_by plant (runs j) (scopings j))) (bump_other k j at out) in
              omega (arith, y, a, z, more_other k j had out);
          fresh = λ j lj out.
              let ne : j ≡ k → ⊥ = (λ y. out (ap (λ m. Running m) (sym y))) in
              ap (scope_by (runs j) (scopings j)) (bump_other k j at ne) ∙ h.fresh j lj out;
        }

    -- ---- what is over

    own_ends : (b : Bool) (mark : Change) (owed credit h0 job cost stated : ℕ) (i : Interval) (phase : Phase) (ds : List Did) → i.predictable ≡ b →
        ends_before now i mark ≡ true → Issued mark phase stated ds i → (b ≡ true → mark ≡ End → now ≤ i.first + i.stated) →
        HasHad b mark now owed credit i.first i.stated h0 (kept_by plant.switch phase stated) job cost →
        left_of mark h0 + kept_by plant.switch phase stated ≤ job
    own_ends b Stay owed credit h0 job cost stated i phase ds pred e y late h = absurd (let z : false ≡ true = e in cc)
    own_ends b (Execute t) owed credit h0 job cost stated i phase ds pred e y late h = absurd (let z : false ≡ true = e in cc)
    own_ends false Memory owed credit h0 job cost stated i phase ds pred e y late h = omega (arith, h)
    own_ends true Memory owed credit h0 job cost stated i phase ds pred e y late h = absurd (let z : false ≡ true = sym y.0 ∙ pred in cc)
    own_ends false Job owed credit h0 job cost stated i phase ds pred e y late h = let z : kept_by plant.switch phase stated ≡ 0 = ap (λ q. kept_by plant.switch q stated) y.1 in omega (arith, z)
    own_ends true Job owed credit h0 job cost stated i phase ds pred e y late h = absurd (let z : false ≡ true = sym y.0 ∙ pred in cc)
    own_ends false End owed credit h0 job cost stated i phase ds pred e y late h = absurd (let z : true ≡ false = sym y.0 ∙ pred in cc)
    own_ends true End owed credit h0 job cost stated i phase ds pred e y late h = omega (arith, late refl refl, h)

    closes_then : (i : Interval) (mark : Change) → ends_before now i mark ≡ true → Closes mark
    closes_then i Stay e = absurd (let z : false ≡ true = e in cc)
    closes_then i (Execute t) e = absurd (let z : false ≡ true = e in cc)
    closes_then i Memory e = tt
    closes_then i End e = tt
    closes_then i Job e = tt

    pub book_ends : (k : ℕ) (i : Interval) (mark : Change) (debt : Debt) (sched' : List TaskJobs) → is_paid debt ≡ true →
        ends_before now i mark ≡ true → Issued mark (phase_at runs at k) (stated_at at k) (begun_at runs at k).steps i →
        (i.predictable ≡ true → mark ≡ End → now ≤ i.first + i.stated) → Booked now had at orders sched (Running k) i mark debt →
        Booked now (left_after mark k had) at orders sched' Point i mark debt
    book_ends k i mark debt sched' paid e y late h = record {
      current = paid_none debt paid;
      held = λ j lj out.
          ⊎_elim (λ (same : j ≡ k).
          subst (λ n. left_after mark k had n + kept_at at n ≤ job_at at n) (sym same)
          (let z : left_of mark (had k) + kept_at at k ≤ job_at at k =
          own_ends i.predictable mark (owed_of debt) h.current.credit (had k) (job_at at k) (x.cost k) (stated_at at k) i (phase_at runs at k)
          (begun_at runs at k).steps refl e y late h.current.has_had in
          omega (arith, z, left_same mark k had)))
          (λ (ne : j ≡ k → ⊥). let z : had j + kept_at at j ≤ job_at at j = h.held j lj ne in omega (arith, z, left_other mark k j had ne))
          (cases_eq j k);
      fresh = λ j lj out.
          ⊎_elim (λ (same : j ≡ k). ap (scope_of at) same ∙ h.current.over (closes_then i mark e))
          (λ (ne : j ≡ k → ⊥). h.fresh j lj (λ y. let z : Running k ≡ Running j = y in ne (sym cc)))
          (cases_eq j k);
    }

    pub book_rests : (until : ℕ) (i : Interval) (mark : Change) (debt : Debt) (sched' : List TaskJobs) →
        Booked now had at orders sched (Idle until) i mark debt → Booked now had at orders sched' Point i mark debt
    book_rests until i mark debt sched' h = record { current = h.current.1; held = h.held; fresh = λ j lj out. h.fresh j lj (idle_runs until j) }
