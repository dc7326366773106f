-- The time of a run of one task without devices: what has passed and what is owed is at most what is due.
use Rattle.std.proofs.Common.{◌≡◌, ℕ, zero, suc, ◌+◌, ◌-◌, ◌*◌, ◌/◌, ◌<◌, ◌≤◌, min, refl, ap, ◌∙◌, sym, subst, arith, cond, Some, None, Option, true, false, Bool, List, [], ◌∷◌, length}
use Rattle.prem_cycle.proofs.Prelude.{want_of, paid_on_bus, is_paid, CoreMove, Passes, Issues, Setup, Work, Debt, CoreState, Mode, Point, Switching, Running, Idle, wants, Change, Stay}
use Rattle.prem_cycle.proofs.Prelude.{Memory, Execute, End, Job, least_none, choice, run_or, rest, least_release, earlier, has_jobs_left, is_ready, released, first_ready, task_at, IsDone}
use Rattle.prem_cycle.proofs.Prelude.{Run, Finished, TaskJobs, lt-div-mul-add, ltb-true, ltb-false, mul-le, All}
use Rattle.prem_cycle.proofs.CoreCases.{MoveCase, pays_on_bus, is_denied, pays_cost, waits, goes_on, switches, begins, chooses, chooses_now, begins_idle, has_finished, idles, Closes}
use Rattle.prem_cycle.proofs.RunsLemmas.PositionLemmas.Debts.{total, ArePositive, wants_none, none_wanted, PaysOne, pays_one, paid_is}
use Rattle.prem_sched.specs.declared.sched.Choice.TheVariants.{Idle as Rest}

-- ---- what a state owes

-- the cycles of its switch, or of its instruction
abbrev pub owed_in : Mode → Debt → ℕ
owed_in Point d = 0
owed_in (Switching k left) d = left
owed_in (Running k) d = total d.transactions + d.cost
owed_in (Idle until) d = 0

-- the switches that have begun
abbrev pub begun_in : Mode → ℕ → ℕ
begun_in Point ended = ended
begun_in (Switching k left) ended = ended + 1
begun_in (Running k) ended = ended + 1
begun_in (Idle until) ended = ended

-- an interval goes on, or ends the job and is not paid
abbrev pub Marked : Change → Debt → Type 0
Marked Stay d = Unit {0}
Marked Memory d = ⊥
Marked (Execute stated) d = ⊥
Marked End d = ⊥
Marked Job d = is_paid d ≡ false

abbrev pub MayMark : Change → Type 0
MayMark Stay = Unit {0}
MayMark Memory = ⊥
MayMark (Execute stated) = ⊥
MayMark End = ⊥
MayMark Job = Unit {0}

-- before cycle `now`: idle time ends at a release, and only instructions owe transactions
abbrev pub Waiting : ℕ → ℕ → Mode → Change → Debt → Type 0
Waiting now last Point c d = d.transactions ≡ []
Waiting now last (Switching k left) c d = d.transactions ≡ []
Waiting now last (Running k) c d = Marked c d
Waiting now last (Idle until) c d = (d.transactions ≡ []) × (now < until) × (until ≤ last)

-- where what is over with the cycle before isn't settled yet
abbrev pub Settling : ℕ → ℕ → Mode → Change → Debt → Type 0
Settling now last Point c d = d.transactions ≡ []
Settling now last (Switching k left) c d = d.transactions ≡ []
Settling now last (Running k) c d = MayMark c
Settling now last (Idle until) c d = (d.transactions ≡ []) × (now ≤ until) × (until ≤ last)

-- some cycles were idle; the others are due
pub record Clocked (switch last due now ended : ℕ) (mode : Mode) (mark : Change) (debt : Debt) : Type 0 where
  pub idle : ℕ
  pub time : now + owed_in mode debt ≤ idle + begun_in mode ended * switch + due
  pub low : idle ≤ now
  pub high : idle ≤ last
  pub positive : ArePositive debt.transactions
  pub rests : Waiting now last mode mark debt

pub record Clocking (switch last due now ended : ℕ) (mode : Mode) (mark : Change) (debt : Debt) : Type 0 where
  pub idle : ℕ
  pub time : now + owed_in mode debt ≤ idle + begun_in mode ended * switch + due
  pub low : idle ≤ now
  pub high : idle ≤ last
  pub positive : ArePositive debt.transactions
  pub rests : Settling now last mode mark debt

-- where an instruction is to issue
pub record ReadyClock (switch last due now ended : ℕ) : Type 0 where
  pub idle : ℕ
  pub time : now ≤ idle + (ended + 1) * switch + due
  pub low : idle ≤ now
  pub high : idle ≤ last

-- ---- the choice among one task

pub one_of : (sched : List TaskJobs) → length sched ≡ 1 → sched ≡ task_at sched 0 ∷ []
one_of [] h = absurd (omega arith)
one_of (t ∷ []) h = refl
one_of (t ∷ u ∷ ts) h = absurd (omega arith)

rest_by : (now : ℕ) (t : TaskJobs) (until : ℕ) (ready left : Bool) → 1 ≤ t.period → is_ready now t ≡ ready → has_jobs_left t ≡ left →
    run_or (cond ready (Some 0) None) (rest (earlier (cond left (Some ((now / t.period + 1) * t.period)) None) None)) ≡ Rest until →
    (now < until) × (until ≤ (t.jobs - 1) * t.period)
rest_by now t until true left some r l e = absurd (let x : Run 0 ≡ Rest until = e in cc)
rest_by now t until false false some r l e = absurd (let x : Finished ≡ Rest until = e in cc)
rest_by now t until false true some r l e =
    let x : Rest ((now / t.period + 1) * t.period) ≡ Rest until = e in
    let is : (now / t.period + 1) * t.period ≡ until = cc in
    let later : now < now / t.period * t.period + t.period = lt-div-mul-add {a = now} {b = t.period} some in
    let job : t.ended < t.jobs = ltb-true t.ended t.jobs l in
    let none : min t.jobs (now / t.period + 1) ≤ t.ended = ltb-false t.ended (released t now) r in
    let within : (now / t.period + 1) * t.period ≤ (t.jobs - 1) * t.period = mul-le (now / t.period + 1) t.period (t.jobs - 1) t.period (omega arith) (omega arith) in
    (omega arith, omega arith)

pub rest_is : (now : ℕ) (sched : List TaskJobs) (until : ℕ) → length sched ≡ 1 → 1 ≤ (task_at sched 0).period → choice now sched ≡ Rest until →
    (now < until) × (until ≤ ((task_at sched 0).jobs - 1) * (task_at sched 0).period)
rest_is now sched until one some e =
    let t : TaskJobs = task_at sched 0 in
    rest_by now t until (is_ready now t) (has_jobs_left t) some refl refl (ap (choice now) (sym (one_of sched one)) ∙ e)

-- finished where all jobs have ended
finish_by : (ready least : Option ℕ) → run_or ready (rest least) ≡ Finished → least ≡ None
finish_by None None e = refl
finish_by None (Some u) e = absurd (let x : Rest u ≡ Finished = e in cc)
finish_by (Some k) least e = absurd (let x : Run k ≡ Finished = e in cc)

pub finish_done : (now : ℕ) (sched : List TaskJobs) → choice now sched ≡ Finished → All IsDone sched
finish_done now sched e = least_none now sched (finish_by (first_ready now 0 sched) (least_release now sched) e)

-- ---- the core's move

abbrev pub MoveClock : (switch last due now ended : ℕ) → CoreMove → Type 0
MoveClock switch last due now ended (Passes c) = Clocking switch last due (now + 1) ended c.mode c.mark c.debt
MoveClock switch last due now ended (Issues k i) = ReadyClock switch last due now ended

module _ (last due now ended : ℕ) where
  marked_may : (c : Change) (d : Debt) → Marked c d → MayMark c
  marked_may Stay d h = tt
  marked_may Memory d h = h
  marked_may (Execute stated) d h = h
  marked_may End d h = h
  marked_may Job d h = tt

  pays : (switch : ℕ) (mode : Mode) (mark : Change) (d : Debt) → wants (want_of d) ≡ true → Clocked switch last due now ended mode mark d →
      Clocking switch last due (now + 1) ended mode mark (paid_on_bus d.transactions d)
  pays switch Point mark d q h = absurd (let x : false ≡ true = sym (wants_none d h.rests) ∙ q in cc)
  pays switch (Switching k left) mark d q h = absurd (let x : false ≡ true = sym (wants_none d h.rests) ∙ q in cc)
  pays switch (Idle until) mark d q h = absurd (let x : false ≡ true = sym (wants_none d h.rests.0) ∙ q in cc)
  pays switch (Running k) mark d q h =
      let one : PaysOne d (paid_on_bus d.transactions d) = pays_one d h.positive q in
      record {
        idle = h.idle;
        time = omega (arith, h.time, one.less, one.cost);
        low = omega (arith, h.low);
        high = h.high;
        positive = one.positive;
        rests = marked_may mark d h.rests;
      }

  closes_not : (c : Change) (d : Debt) → Closes c → Marked c d → is_paid d ≡ true → ⊥
  closes_not Stay d x h paid = x
  closes_not (Execute stated) d x h paid = x
  closes_not Memory d x h paid = h
  closes_not End d x h paid = h
  closes_not Job d x h paid = let y : true ≡ false = sym paid ∙ h in cc

  pub move_clock : (p : Setup) (had : Bool) (sched : List TaskJobs) (w : Work) (c : CoreState) (m : CoreMove) → MoveCase p now had sched w c m →
      (wants (want_of c.debt) ≡ true → had ≡ true) → (c.mode ≡ Point → choice now sched ≡ Finished → ⊥) →
      ((until : ℕ) → choice now sched ≡ Rest until → (now < until) × (until ≤ last)) →
      Clocked p.plant.switch last due now ended c.mode c.mark c.debt → MoveClock p.plant.switch last due now ended m
  move_clock p had sched w c _ (pays_on_bus q e) bus goes rest h = pays p.plant.switch c.mode c.mark c.debt q h
  move_clock p had sched w c _ (is_denied q e) bus goes rest h = absurd (let x : true ≡ false = sym (bus q) ∙ e in cc)
  move_clock p had sched w c _ (pays_cost k cost q e f) bus goes rest h =
      let g : Clocked p.plant.switch last due now ended (Running k) c.mark c.debt = subst (λ m. Clocked p.plant.switch last due now ended m c.mark c.debt) e h in
      subst (λ m. Clocking p.plant.switch last due (now + 1) ended m c.mark (record c.debt { cost = cost })) (sym e)
      (record {
        idle = g.idle;
        time = omega (arith, g.time, f);
        low = omega (arith, g.low);
        high = g.high;
        positive = g.positive;
        rests = marked_may c.mark c.debt g.rests;
      })
  move_clock p had sched w c _ (waits k q e f x) bus goes rest h =
      let g : Clocked p.plant.switch last due now ended (Running k) c.mark c.debt = subst (λ m. Clocked p.plant.switch last due now ended m c.mark c.debt) e h in
      absurd (closes_not c.mark c.debt x g.rests (paid_is c.debt (none_wanted c.debt q) f))
  move_clock p had sched w c _ (goes_on k q e f x) bus goes rest h =
      let g : Clocked p.plant.switch last due now ended (Running k) c.mark c.debt = subst (λ m. Clocked p.plant.switch last due now ended m c.mark c.debt) e h in
      record { idle = g.idle; time = omega (arith, g.time); low = g.low; high = g.high }
  move_clock p had sched w c _ (switches k left q e) bus goes rest h =
      let g : Clocked p.plant.switch last due now ended (Switching k (suc left)) c.mark c.debt = subst (λ m. Clocked p.plant.switch last due now ended m c.mark c.debt) e h in
      record { idle = g.idle; time = omega (arith, g.time); low = omega (arith, g.low); high = g.high; positive = g.positive; rests = g.rests }
  move_clock p had sched w c _ (begins k q e) bus goes rest h =
      let g : Clocked p.plant.switch last due now ended (Switching k zero) c.mark c.debt = subst (λ m. Clocked p.plant.switch last due now ended m c.mark c.debt) e h in
      record { idle = g.idle; time = omega (arith, g.time); low = g.low; high = g.high }
  move_clock p had sched w c _ (chooses k left q e f s) bus goes rest h =
      let g : Clocked p.plant.switch last due now ended Point c.mark c.debt = subst (λ m. Clocked p.plant.switch last due now ended m c.mark c.debt) e h in
      record { idle = g.idle; time = omega (arith, g.time, s); low = omega (arith, g.low); high = g.high; positive = g.positive; rests = g.rests }
  move_clock p had sched w c _ (chooses_now k q e f s) bus goes rest h =
      let g : Clocked p.plant.switch last due now ended Point c.mark c.debt = subst (λ m. Clocked p.plant.switch last due now ended m c.mark c.debt) e h in
      record { idle = g.idle; time = omega (arith, g.time); low = g.low; high = g.high }
  move_clock p had sched w c _ (begins_idle until q e f) bus goes rest h =
      let g : Clocked p.plant.switch last due now ended Point c.mark c.debt = subst (λ m. Clocked p.plant.switch last due now ended m c.mark c.debt) e h in
      let r : (now < until) × (until ≤ last) = rest until f in
      record {
        idle = g.idle + 1;
        time = omega (arith, g.time);
        low = omega (arith, g.low);
        high = omega (arith, g.low, r.0, r.1);
        positive = g.positive;
        rests = (g.rests, omega (arith, r.0), r.1);
      }
  move_clock p had sched w c _ (has_finished q e f) bus goes rest h = absurd (goes e f)
  move_clock p had sched w c _ (idles until q e) bus goes rest h =
      let g : Clocked p.plant.switch last due now ended (Idle until) c.mark c.debt = subst (λ m. Clocked p.plant.switch last due now ended m c.mark c.debt) e h in
      subst (λ m. Clocking p.plant.switch last due (now + 1) ended m c.mark c.debt) (sym e)
      (record {
        idle = g.idle + 1;
        time = omega (arith, g.time);
        low = omega (arith, g.low);
        high = omega (arith, g.low, g.rests.1, g.rests.2);
        positive = g.positive;
        rests = (g.rests.0, omega (arith, g.rests.1), g.rests.2);
      })
