-- A cycle of a core whose tasks keep to their scripts: what has passed is at most the cycles in which it hasn't worked, and
-- what is due for the instructions that have issued.
use Rattle.std.proofs.Common.{◌≡◌, ℕ, zero, suc, ◌+◌, ◌-◌, ◌*◌, ◌<◌, ◌≤◌, refl, ap, ◌∙◌, sym, subst, arith, cond, leb, ltb, true, false, Bool, Some, None, List, [], ◌∷◌, length, get_or, ◌⊎◌}
use Rattle.std.proofs.Common.{inl, inr, ⊎_elim}
use Rattle.std.specs.Prelude.{All, is_some, ◌&&◌, ◌||◌}
use Rattle.prem_sound.proofs.Prelude.{MoveCase, total, ArePositive, paid_is, issuing_did, MayMove, does, stands_still, turn_with, GoesOn, Schedules, Moves as Scheduled, bump, Stands}
use Rattle.prem_sound.proofs.Prelude.{Issuing, Runs, bump_move, issuing, kept_plant, want_of, is_paid, CoreMove, Passes, Issues, is_predictable, core_issue, core_turn, Arrivals, with_memory}
use Rattle.prem_sound.proofs.Prelude.{with_clash, joined, ends_before, ended_interval, at_point, close_interval, settle, with_now, next_cycle, ticked, is_finish, is_finished_in, is_finished}
use Rattle.prem_sound.proofs.Prelude.{output_count, log_size, Executes, LineTouch, issued_by, owed_by, Setup, no_record, record_of, first_task, Task, Transaction, Work, Debt, CoreState, Counts}
use Rattle.prem_sound.proofs.Prelude.{MachineState, start_of, task_in, Mode, Point, Switching, Running, Idle, Turned, wants, TaskRecord, plain_fits, cost_of, TaskRun, PlainState, Did}
use Rattle.prem_sound.proofs.Prelude.{did_of, plain_did, plain_steps, plain_run, Change, Stay, Memory, Execute, End, Job, Phase, Compatible, Execution, ReplacementRule, lines_in, OrderRule}
use Rattle.prem_sound.proofs.Prelude.{HaveRoom, caches_after, cache_misses, IsPlant, Plant, choice_done, choice, no_task, task_at, IsDone, Finished, TaskJobs, IsPolicy, Scoping}
use Rattle.prem_sound.proofs.Prelude.{within_scope, scope_by, scope_at as lines_at, IsScoped, charges_by, all_charged, lines_of_did, begun_by, Call, call_of, Script, sum_below, last_release}
use Rattle.prem_sound.proofs.Prelude.{interval_count, and_parts, cond_both, leb-false, lt-leb, ltb-true, length-append}
use Rattle.prem_cycle.specs.Cycle.{is_full}
use Rattle.prem_isa.specs.declared.effect.Phase.TheVariants.{Memory as MemoryPhase}
use Rattle.prem_sched.specs.declared.sched.Choice.TheVariants.{Idle as Rest}
use Rattle.prem_sound.proofs.CallRuns.{calls_most}
use Rattle.prem_sound.proofs.Ends.{ended_most, outputs_most}
use Rattle.prem_sound.proofs.Lasting.{Lasts, core_clock}
use Rattle.prem_sound.proofs.Lasts.{owed_of, InTime, Clock}
use Rattle.prem_sound.proofs.Logs.{AreEnded, EndedMove, ended_moves, ended_issues, ended_ends, ends_at, called_at}
use Rattle.prem_sound.proofs.Paces.{in_script, Paced, paced_fits}
use Rattle.prem_sound.proofs.ResidentLemmas.Counted.{AttemptFits, attempt_fits}
use Rattle.prem_sound.proofs.ResidentLemmas.Facing.{KnownCore, Meets, Faces, Comes}
use Rattle.prem_sound.proofs.ResidentLemmas.Keeps.{sets_are, KeepScripts, Keeps}
use Rattle.prem_sound.proofs.ResidentLemmas.Residents.{Goes, Issued, phase_at, begun_at, Resides, Moves}
use Rattle.prem_sound.proofs.ResidentLemmas.Touches.{missed_lines, TouchesLines, issue_touches}
use Rattle.prem_sound.proofs.Rests.{Released, rest_until, release_last}
use Rattle.prem_sound.proofs.ScopesLemmas.ChargeRuns.{some_charge}
use Rattle.prem_sound.proofs.ScopesLemmas.Credits.{Backed, backed_none, Pays, backed_with}
use Rattle.prem_sound.proofs.ScopesLemmas.Totals.{charged_most, charged_left}
use Rattle.prem_sound.proofs.Spends.{kept_by, behind, until_end, off_behind, due_at, kept_at, stated_at, all_due, all_kept, RunTime, TimeIn, Spent, IsTask, SpendMove, point_on, spend_moves}
use Rattle.prem_sound.proofs.Spends.{off_before, Paid, scope_next, spend_issues, spend_ends, spend_rests}
use Rattle.prem_sound.proofs.Sums.{sum_le, sum_less, sum_part, all_or_one, sum_list}

-- ---- small facts

pub first_no : (a b c : Bool) → (a || b || c) ≡ false → a ≡ false
first_no true b c h = absurd (let x : true ≡ false = h in cc)
first_no false b c h = refl

pub not_finished : (s : MachineState) → is_finished s ≡ false → s.core.mode ≡ Point → choice s.now s.sched ≡ Finished → ⊥
not_finished s h e f =
    let x : is_finished_in s.now s.sched Point ≡ false = ap (is_finished_in s.now s.sched) (sym e) ∙ h in
    let y : true ≡ false = sym (ap is_finish f) ∙ x in cc

pub unpaid_owes : (d : Debt) → is_paid d ≡ false → ArePositive d.transactions → 1 ≤ owed_of d
unpaid_owes d h pos = by d.transactions d.cost refl refl where
  by : (ts : List Transaction) (c : ℕ) → d.transactions ≡ ts → d.cost ≡ c → 1 ≤ owed_of d
  by [] zero e f = let x : true ≡ false = sym (paid_is d e f) ∙ h in absurd cc
  by [] (suc c) e f = omega (arith, f)
  by (t ∷ ts) c e f =
      let p : ArePositive (t ∷ ts) = subst ArePositive e pos in
      let x : total d.transactions ≡ t.cycles + total ts = ap total e in
      omega (arith, x, p.0)

-- one of both
pub not_both : (a b : Bool) → (a && b) ≡ false → (a ≡ false) ⊎ (b ≡ false)
not_both true b h = inr h
not_both false b h = inl refl

both_room : (a b l : ℕ) → a < l → b < l → (leb l a || leb l b) ≡ false
both_room a b l x y = ap (λ c. c || leb l b) (lt-leb l a x) ∙ lt-leb l b y

-- ---- moves that may be none

may_spend : (plant : Plant) (tasks : ℕ) (runs : ℕ → TaskRun) (scripts : ℕ → Script) (order : OrderRule) (scopings : ℕ → Scoping) (at : ℕ → ℕ)
    (orders : List (List ℕ)) (now last off : ℕ) (p : Setup) (had : Bool) (sched : List TaskJobs) (w : Work) (c : CoreState) (m : CoreMove) →
    p.plant.switch ≡ plant.switch → MayMove p now had sched w c m → IsTask plant tasks runs scripts order scopings m →
    ArePositive c.debt.transactions → (wants (want_of c.debt) ≡ true → had ≡ true) →
    ((k : ℕ) → c.mode ≡ Running k → (is_paid c.debt && ends_before now c.interval c.mark) ≡ false) →
    ((k : ℕ) → c.mode ≡ Running k → c.interval.predictable ≡ false → c.mark ≡ End → ⊥) →
    ((until : ℕ) → choice now sched ≡ Rest until → (now < until) × (until ≤ last)) →
    Spent plant tasks runs scripts order scopings 0 now last off at orders c.mode c.interval c.mark c.debt →
    SpendMove plant tasks runs scripts order scopings now last off at orders m
may_spend plant tasks runs scripts order scopings at orders now last off p had sched w c _ same (does m x) task pos serves on no_end until_by r =
    spend_moves plant tasks runs scripts order scopings at orders now last off p had sched w c m same x task pos serves on no_end until_by r
may_spend plant tasks runs scripts order scopings at orders now last off p had sched w c _ same (stands_still e)
    task pos serves on no_end until_by r = point_on plant tasks runs scripts order scopings at orders now last off c e r

may_end : (tasks : ℕ) (runs : ℕ → TaskRun) (at : ℕ → ℕ) (count : ℕ) (p : Setup) (now : ℕ) (had : Bool) (sched : List TaskJobs) (w : Work)
    (c : CoreState) (m : CoreMove) → MayMove p now had sched w c m → AreEnded tasks runs count at c.mode c.mark → EndedMove tasks runs count at m
may_end tasks runs at count p now had sched w c _ (does m x) r = ended_moves tasks runs at count p now had sched w c m x r
may_end tasks runs at count p now had sched w c _ (stands_still e) r = r

module _ (rule : ReplacementRule) (order : OrderRule) (passes : ℕ → ℕ) (p : Setup) (own : ℕ → ℕ → Bool) (runs : ℕ → TaskRun) (scripts : ℕ → Script)
    (policy : IsPolicy rule order passes) (keep : KeepScripts p passes runs scripts)
    (jobs_are : (k : ℕ) → k < length p.tasks → (runs k).jobs ≡ (record_of p k).jobs) (periods : All (λ (r : TaskRecord). 1 ≤ r.period) p.tasks)
    (scopings : ℕ → Scoping) (scoped : (k : ℕ) → k < length p.tasks → IsScoped p.plant (runs k) (scopings k)) (total_of : ℕ → ℕ)
    (totals : (k : ℕ) → k < length p.tasks →
    all_charged p.plant (scripts k) (runs k) (charges_by p.plant (runs k) (scopings k)) (scripts k).count ≤ total_of k) where
  abbrev IsKeeping : (ℕ → ℕ) → MachineState → Type 0
  IsKeeping at s = Keeps rule order passes p own runs scripts policy keep at s

  abbrev IsLasting : (ℕ → ℕ) → MachineState → Type 0
  IsLasting at s = Lasts rule order passes p own runs scripts policy keep at s

  abbrev pub last : ℕ
  last = last_release p.tasks

  abbrev SpentIn : (slack now off : ℕ) → (ℕ → ℕ) → (orders : List (List ℕ)) → CoreState → Type 0
  SpentIn slack now off at orders c = Spent p.plant (length p.tasks) runs scripts order scopings slack now last off at orders c.mode c.interval c.mark c.debt

  abbrev EndedIn : ℕ → (ℕ → ℕ) → CoreState → Type 0
  EndedIn count at c = AreEnded (length p.tasks) runs count at c.mode c.mark

  pub record Timed (off : ℕ) (at : ℕ → ℕ) (s : MachineState) : Type 0 where
    pub spent : SpentIn 0 s.now off at (lines_in s.work.cache) s.core
    pub ended : EndedIn (length s.log.intervals) at s.core

  -- ---- the core's part

  record TurnTimed (now count off : ℕ) (at : ℕ → ℕ) (orders : List (List ℕ)) (c : CoreState) : Type 0 where
    spent : SpentIn 1 (now + 1) off at orders c
    ended : EndedIn count at c

  -- an instruction is paid for by what it is charged, and by its scope's credit
  paid_by : (a : ℕ → ℕ) (k : ℕ) (d : Did) (w : Work) (owed credit : ℕ) (ts : List LineTouch) → k < length p.tasks →
      plain_did (runs k) (plain_run (runs k) (a k)) ≡ Some d → 0 < p.plant.sets → length (lines_in w.cache) ≡ p.plant.sets →
      missed_lines ts ≡ cache_misses order p.plant.ways (lines_in w.cache) (lines_of_did p.plant.line d) →
      owed ≡ total (owed_by p.plant ts) + (cost_of d.instr - 1) →
      (d.phase ≡ Compatible → Backed order p.plant (lines_in w.cache) (scope_by (runs k) (scopings k) (a k)) credit) →
      (c : Change) → d.change ≡ c → (ph : Phase) → d.phase ≡ ph →
      Paid p.plant (length p.tasks) runs scripts order scopings a (lines_in w.cache) 0 0 0
      (caches_after order p.plant.ways (lines_in w.cache) (lines_of_did p.plant.line d)) k d owed credit (charges_by p.plant (runs k) (scopings k) (a k) d)
  paid_by a k d w owed credit ts lt did pos count missed owed_is h c ch MemoryPhase ph =
      record {
        spare = 0;
        backed = λ e. absurd (let y : MemoryPhase ≡ Compatible = sym ph ∙ e in cc);
        pays = λ e. absurd (let y : MemoryPhase ≡ Compatible = sym ph ∙ e in cc);
      }
  paid_by a k d w owed credit ts lt did pos count missed owed_is h c ch Execution ph =
      record {
        spare = 0;
        backed = λ e. absurd (let y : Execution ≡ Compatible = sym ph ∙ e in cc);
        pays = λ e. absurd (let y : Execution ≡ Compatible = sym ph ∙ e in cc);
      }
  paid_by a k d w owed credit ts lt did pos count missed owed_is h c ch Compatible ph =
      let orders' : List (List ℕ) = caches_after order p.plant.ways (lines_in w.cache) (lines_of_did p.plant.line d) in
      let y : Pays order p.plant orders' (lines_at (runs k) (scopings k) (a k)) owed credit (charges_by p.plant (runs k) (scopings k) (a k) d) =
      backed_with order p.plant (lines_in w.cache) (scopings k (a k)) (scope_by (runs k) (scopings k) (a k)) d credit owed ts policy.once pos count
      ((scoped k lt).within (a k) d did ph) missed owed_is (h ph) in
      let next : scope_by (runs k) (scopings k) (bump k a k) ≡ within_scope c (lines_at (runs k) (scopings k) (a k)) =
      scope_next p.plant (length p.tasks) runs scripts order scopings a (lines_in w.cache) 0 0 0 k d did ∙ ap (λ q. within_scope q (lines_at (runs k) (scopings k) (a k))) ch in
      leaves c orders' (charges_by p.plant (runs k) (scopings k) (a k) d) y next where
        leaves : (c : Change) (orders' : List (List ℕ)) (charge : ℕ) →
            Pays order p.plant orders' (lines_at (runs k) (scopings k) (a k)) owed credit charge →
            scope_by (runs k) (scopings k) (bump k a k) ≡ within_scope c (lines_at (runs k) (scopings k) (a k)) →
            Paid p.plant (length p.tasks) runs scripts order scopings a (lines_in w.cache) 0 0 0 orders' k d owed credit charge
        leaves Stay orders' charge y next = record { spare = y.spare; backed = λ _. subst (λ ls. Backed order p.plant orders' ls y.spare) (sym next) y.backed; pays = λ _. y.pays }
        leaves (Execute t) orders' charge y next = record { spare = y.spare; backed = λ _. subst (λ ls. Backed order p.plant orders' ls y.spare) (sym next) y.backed; pays = λ _. y.pays }
        leaves Memory orders' charge y next =
            record {
              spare = 0;
              backed = λ _. subst (λ ls. Backed order p.plant orders' ls 0) (sym next) (backed_none order p.plant orders');
              pays = λ _. omega (arith, y.pays);
            }
        leaves End orders' charge y next =
            record {
              spare = 0;
              backed = λ _. subst (λ ls. Backed order p.plant orders' ls 0) (sym next) (backed_none order p.plant orders');
              pays = λ _. omega (arith, y.pays);
            }
        leaves Job orders' charge y next =
            record {
              spare = 0;
              backed = λ _. subst (λ ls. Backed order p.plant orders' ls 0) (sym next) (backed_none order p.plant orders');
              pays = λ _. omega (arith, y.pays);
            }

  turn_timed : (at : ℕ → ℕ) (now count off : ℕ) (sched : List TaskJobs) (m : CoreMove) (w : Work) (c : CoreState) (n : Counts) →
      Stands p own runs at w → Runs p own runs → Scheduled p runs at sched m →
      Moves order p.plant (length p.tasks) runs scripts at (lines_in w.cache) m →
      SpendMove p.plant (length p.tasks) runs scripts order scopings now last off at (lines_in w.cache) m →
      EndedMove (length p.tasks) runs count at m →
      TurnTimed now count (off_behind m off) (bump_move m at) (lines_in (core_turn rule p now m w c n).work.cache) (core_turn rule p now m w c n).core
  turn_timed at now count off sched (Passes c') w c n s rs j r h g = record { spent = h; ended = g }
  turn_timed at now count off sched (Issues k i) w c n s rs j r h g =
      let lt : k < length p.tasks = j.unfinished.bound in
      let x : Issuing p (own k) (runs k) (at k) k w = issuing p own runs at w k rs s j.unfinished in
      let t : Task = task_in w k in
      let did : plain_did (runs k) (plain_run (runs k) (at k)) ≡ Some (did_of t.pc t.phase x.instr x.effect) = issuing_did p (own k) runs at k w j.unfinished (s.each k lt) x in
      let d : Did = did_of t.pc t.phase x.instr x.effect in
      let ts : List LineTouch = (issued_by rule p k x.effect w).touches in
      let orders' : List (List ℕ) = caches_after order p.plant.ways (lines_in w.cache) (lines_of_did p.plant.line d) in
      let debt : Debt = record { transactions = owed_by p.plant ts; begun = false; cost = cost_of x.instr - 1 } in
      let fits : AttemptFits (runs k).size t x.effect =
      attempt_fits (runs k).target (runs k).size (plain_run (runs k) (at k)).task.view t x.instr x.effect
      (plain_fits (runs k) (rs.is k lt).fits (at k)).task.bytes x.alone in
      let touches : TouchesLines order p.plant.ways w.cache (lines_of_did p.plant.line d) (issued_by rule p k x.effect w) =
      issue_touches rule order policy.moves p k x.effect w policy.keeps s.kept (subst (λ m. t.pc + 4 ≤ m) (rs.is k lt).size fits.within) in
      let is : IsPlant p.plant = kept_plant p w.cache w.memory s.kept in
      let some : 1 ≤ p.plant.sets = is.sets.0 in
      let same : d.phase ≡ phase_at runs at k = ap (λ (q : PlainState). q.task.phase) (s.each k lt).same in
      let paid : Paid p.plant (length p.tasks) runs scripts order scopings at (lines_in w.cache) 0 0 0 orders' k d (owed_of debt) h.credit (charges_by p.plant (runs k) (scopings k) (at k) d) =
      paid_by at k d w (owed_of debt) h.credit ts lt did (omega (arith, some)) (sets_are rule order passes p own runs scripts policy keep w s.kept) touches.misses_are refl
      (λ e. h.backed (sym r.goes.kind ∙ ap is_predictable (sym same ∙ e))) d.change refl d.phase refl in
      subst (λ a. TurnTimed now count off (bump k at) (lines_in (core_issue rule p now k i a w c n).work.cache) (core_issue rule p now k i a w c n).core) (sym (x.behind rule policy.keeps))
      (subst (λ l. TurnTimed now count off (bump k at) l (core_issue rule p now k i (Executes x.instr x.effect) w c n).core) (sym touches.lines_are)
      (record {
        spent = spend_issues p.plant (length p.tasks) runs scripts order scopings at (lines_in w.cache) now last off orders' k i d debt lt did r h
            (record { spare = paid.spare; backed = paid.backed; pays = paid.pays });
        ended = ended_issues (length p.tasks) runs at count order p.plant scripts (lines_in w.cache) k d lt did g;
      }))

  -- ---- the end of a cycle

  settle_timed : (off : ℕ) (at : ℕ → ℕ) (m : Mode) (s : MachineState) → s.core.mode ≡ m → SpentIn 1 s.now off at (lines_in s.work.cache) s.core →
      EndedIn (length s.log.intervals) at s.core →
      Resides order p.plant (length p.tasks) runs scripts at (lines_in s.work.cache) s.core.mode s.core.interval s.core.mark →
      Clock order p.plant (length p.tasks) runs scripts s.now at (lines_in s.work.cache) s.core.mode s.core.interval s.core.mark s.core.debt →
      Timed off at (settle m s)
  settle_timed off at Point s e h g r c =
      record {
        spent = subst (λ m. Spent p.plant (length p.tasks) runs scripts order scopings 1 s.now last off at (lines_in s.work.cache)
            m s.core.interval s.core.mark s.core.debt →
            Spent p.plant (length p.tasks) runs scripts order scopings 0 s.now last off at (lines_in s.work.cache)
            m s.core.interval s.core.mark s.core.debt) (sym e) (λ t. record { low = t.low; credit = t.credit; stands = t.stands; time = t.time }) h;
        ended = g;
      }
  settle_timed off at (Switching k left) s e h g r c =
      record {
        spent = subst (λ m. Spent p.plant (length p.tasks) runs scripts order scopings 1 s.now last off at (lines_in s.work.cache)
            m s.core.interval s.core.mark s.core.debt →
            Spent p.plant (length p.tasks) runs scripts order scopings 0 s.now last off at (lines_in s.work.cache)
            m s.core.interval s.core.mark s.core.debt) (sym e) (λ t. record { low = t.low; credit = t.credit; stands = t.stands; time = t.time }) h;
        ended = g;
      }
  settle_timed off at (Running k) s e h g r c =
      cond_both (is_paid s.core.debt && ends_before s.now s.core.interval s.core.mark) (close_interval k s) s (Timed off at)
      (λ over.
      let parts : (is_paid s.core.debt ≡ true) × (ends_before s.now s.core.interval s.core.mark ≡ true) = and_parts (is_paid s.core.debt) (ends_before s.now s.core.interval s.core.mark) over in
      record {
        spent = spend_ends p.plant (length p.tasks) runs scripts order scopings at (lines_in s.work.cache)
            s.now last off k s.core.interval s.core.mark s.core.debt (phase_at runs at k) (call_of (scripts k) (begun_at runs at k)).stated
            (begun_at runs at k).steps parts.0 parts.1 (r.runs_in k e).issued
            (λ pred mark. let y : s.now + owed_of s.core.debt ≤ s.core.interval.first + s.core.interval.stated =
            subst (λ x. InTime order p.plant x s.now (owed_of s.core.debt) s.core.interval (begun_at runs at k).steps (lines_in s.work.cache))
            mark (c.in_time k e pred) in omega arith)
            (subst (λ m. Spent p.plant (length p.tasks) runs scripts order scopings 1 s.now last off at (lines_in s.work.cache) m s.core.interval s.core.mark s.core.debt) e h);
        ended = subst (λ n. AreEnded (length p.tasks) runs n at Point s.core.mark) (sym (length-append s.log.intervals (ended_interval s.now k s.core.interval ∷ [])))
            (ended_ends (length p.tasks) runs at (length s.log.intervals) s.now k s.core.interval s.core.mark parts.1
            (subst (λ m. AreEnded (length p.tasks) runs (length s.log.intervals) at m s.core.mark) e g));
      })
      (λ _. record {
        spent = subst (λ m. Spent p.plant (length p.tasks) runs scripts order scopings 1 s.now last off at (lines_in s.work.cache)
            m s.core.interval s.core.mark s.core.debt →
            Spent p.plant (length p.tasks) runs scripts order scopings 0 s.now last off at (lines_in s.work.cache)
            m s.core.interval s.core.mark s.core.debt) (sym e) (λ t. record { low = t.low; credit = t.credit; stands = t.stands; time = t.time }) h;
        ended = g;
      })
  settle_timed off at (Idle until) s e h g r c =
      cond_both (ltb s.now until) s (record s { core = at_point s.core }) (Timed off at)
      (λ before. record {
        spent = subst (λ m. Spent p.plant (length p.tasks) runs scripts order scopings 1 s.now last off at (lines_in s.work.cache)
            m s.core.interval s.core.mark s.core.debt →
            Spent p.plant (length p.tasks) runs scripts order scopings 0 s.now last off at (lines_in s.work.cache)
            m s.core.interval s.core.mark s.core.debt) (sym e)
            (λ t. record { low = t.low; credit = t.credit; stands = t.stands; time = (t.time.0, t.time.1, omega (arith, ltb-true s.now until before), t.time.3) }) h;
        ended = g;
      })
      (λ _. record {
        spent = (let t : Spent p.plant (length p.tasks) runs scripts order scopings 1 s.now last off at (lines_in s.work.cache) (Idle until)
            s.core.interval s.core.mark s.core.debt =
            subst (λ m. Spent p.plant (length p.tasks) runs scripts order scopings 1 s.now last off at (lines_in s.work.cache)
            m s.core.interval s.core.mark s.core.debt) e h in
            spend_rests p.plant (length p.tasks) runs scripts order scopings at (lines_in s.work.cache)
            s.now last off until s.core.interval s.core.mark s.core.debt t);
        ended = subst (λ m. AreEnded (length p.tasks) runs (length s.log.intervals) at m s.core.mark) e g;
      })

  ticked_timed : (off : ℕ) (at : ℕ → ℕ) (s : MachineState) → s.trapped ≡ None → SpentIn 1 (s.now + 1) off at (lines_in s.work.cache) s.core →
      EndedIn (length s.log.intervals) at s.core →
      Resides order p.plant (length p.tasks) runs scripts at (lines_in s.work.cache) s.core.mode s.core.interval s.core.mark →
      Clock order p.plant (length p.tasks) runs scripts (s.now + 1) at (lines_in s.work.cache) s.core.mode s.core.interval s.core.mark s.core.debt →
      Timed off at (ticked s)
  ticked_timed off at s u h g r c =
      subst (λ t. Timed off at (cond (is_some t) s (next_cycle s))) (sym u)
      (settle_timed off at s.core.mode (with_now s (s.now + 1)) refl h g r c)

  -- ---- a cycle

  sched_periods : (at : ℕ → ℕ) (s : MachineState) → Schedules p runs at s.sched s.core.mode s.core.mark → All (λ (t : TaskJobs). 1 ≤ t.period) s.sched
  sched_periods at s g k d lt =
      let lk : k < length p.tasks = omega (arith, lt, g.count) in
      let e : (task_at s.sched k).period ≡ (record_of p k).period = g.periods k lk in
      let some : 1 ≤ (record_of p k).period = periods k no_record lk in
      let same : get_or s.sched k d ≡ task_at s.sched k = get_or_any s.sched k d no_task lt in
      subst (λ (t : TaskJobs). 1 ≤ t.period) (sym same) (omega (arith, e, some)) where
        get_or_any : (xs : List TaskJobs) (k : ℕ) (d z : TaskJobs) → k < length xs → get_or xs k d ≡ get_or xs k z
        get_or_any [] k d z lt = absurd (omega (arith, lt))
        get_or_any (x ∷ xs) zero d z lt = refl
        get_or_any (x ∷ xs) (suc k) d z lt = get_or_any xs k d z (omega (arith, lt))

  rest_last : (at : ℕ → ℕ) (s : MachineState) → Schedules p runs at s.sched s.core.mode s.core.mark → (until : ℕ) → choice s.now s.sched ≡ Rest until → (s.now < until) × (until ≤ last)
  rest_last at s g until e =
      let r : (s.now < until) × Released s.sched until = rest_until s.now s.sched until (sched_periods at s g) e in
      let k : ℕ = r.1.task in
      let lk : k < length p.tasks = omega (arith, r.1.there, g.count) in
      let jobs : (task_at s.sched k).jobs ≡ (record_of p k).jobs = g.jobs k lk ∙ jobs_are k lk in
      let le : ((record_of p k).jobs - 1) * (record_of p k).period ≤ last = release_last p.tasks k lk in
      let same : ((task_at s.sched k).jobs - 1) * (task_at s.sched k).period ≡ ((record_of p k).jobs - 1) * (record_of p k).period =
      ap (λ n. (n - 1) * (task_at s.sched k).period) jobs ∙ ap (λ n. ((record_of p k).jobs - 1) * n) (g.periods k lk) in
      (r.0, both until _ _ last r.1.by_then same le) where
        both : (u a b l : ℕ) → u ≤ a → a ≡ b → b ≤ l → u ≤ l
        both u a b l x e y = omega (arith, x, e, y)

  no_end : (at : ℕ → ℕ) (s : MachineState) →
      Resides order p.plant (length p.tasks) runs scripts at (lines_in s.work.cache) s.core.mode s.core.interval s.core.mark → (k : ℕ) →
      s.core.mode ≡ Running k → s.core.interval.predictable ≡ false → s.core.mark ≡ End → ⊥
  no_end at s r k e none mark =
      let x : Issued End (phase_at runs at k) (call_of (scripts k) (begun_at runs at k)).stated (begun_at runs at k).steps s.core.interval =
      subst (λ c. Issued c (phase_at runs at k) (call_of (scripts k) (begun_at runs at k)).stated (begun_at runs at k).steps s.core.interval) mark (r.runs_in k e).issued in
      let y : true ≡ false = sym x.0 ∙ none in cc

  is_task : (m : CoreMove) (at : ℕ → ℕ) (sched : List TaskJobs) → Scheduled p runs at sched m → IsTask p.plant (length p.tasks) runs scripts order scopings m
  is_task (Passes c) at sched j = tt
  is_task (Issues k i) at sched j = j.unfinished.bound

  -- behind the end of the cycle
  pub core_timed : (rs : Runs p own runs) (off : ℕ) (at : ℕ → ℕ) (a : Arrivals) (b : Turned) (m : CoreMove) (s : MachineState) →
      KnownCore p own runs at s → IsKeeping at s → IsLasting at s → Timed off at s → Meets p own b m s →
      Faces rule order passes p own runs scripts policy keep rs at b m s → Comes rule order passes p own runs scripts policy keep rs at a b m s →
      Timed (off_behind m off) (bump_move m at) (ticked (joined a b (turn_with rule p b m s) s))
  core_timed rs off at a b m s kn h l t meets f c =
      let w : Work = with_memory b.memory s.work in
      let sm : SpendMove p.plant (length p.tasks) runs scripts order scopings s.now last off at (lines_in w.cache) m =
      may_spend p.plant (length p.tasks) runs scripts order scopings at (lines_in w.cache)
      s.now last off p b.turn.core s.sched w s.core m refl meets.may (is_task m at s.sched f.scheduled) l.clock.positive meets.serves l.goes_on
      (no_end at s h.resides)
      (rest_last at s kn.position.schedules) t.spent in
      let em : EndedMove (length p.tasks) runs (length s.log.intervals) at m =
      may_end (length p.tasks) runs at (length s.log.intervals) p s.now b.turn.core s.sched w s.core m meets.may t.ended in
      let x : TurnTimed s.now (length s.log.intervals) (off_behind m off) (bump_move m at) (lines_in (turn_with rule p b m s).work.cache)
      (turn_with rule p b m s).core =
      turn_timed at s.now (length s.log.intervals) off s.sched m w s.core (with_clash b.turn.clash s.log.counts) f.stands rs f.scheduled f.moves_to sm em in
      ticked_timed (off_behind m off) (bump_move m at) (joined a b (turn_with rule p b m s) s) c.position.untrapped x.spent x.ended c.turn.resides
      (core_clock rule order passes p own runs scripts policy keep rs at b m s h l meets f)

  -- a cycle of its own in which it doesn't work comes before the last release, unless it has finished
  pub core_off : (off : ℕ) (at : ℕ → ℕ) (b : Turned) (m : CoreMove) (s : MachineState) → KnownCore p own runs at s → Timed off at s →
      MoveCase p s.now b.turn.core s.sched (with_memory b.memory s.work) s.core m → (wants (want_of s.core.debt) ≡ true → b.turn.core ≡ true) →
      is_finished s ≡ false → (off_behind m off ≡ off) ⊎ (s.now < last)
  core_off off at b m s kn t x serves go =
      off_before p.plant (length p.tasks) runs scripts order scopings at (lines_in s.work.cache) s.now last off p b.turn.core s.sched (with_memory b.memory s.work) s.core m x serves
      (rest_last at s kn.position.schedules) (not_finished s go) t.spent

  -- ---- the start

  none_below : (n : ℕ) (f : ℕ → ℕ) → ((k : ℕ) → f k ≡ 0) → sum_below n f ≡ 0
  none_below zero f h = refl
  none_below (suc n) f h = omega (arith, none_below n f h, h n)

  pub start_timed : (inputs : List (List ℕ)) (memory : List ℕ) → Timed 0 (λ k. 0) (start_of p inputs memory)
  unfolding begun_by plain_steps all_charged scope_by
  start_timed inputs memory =
      let kept : all_kept p.plant (length p.tasks) runs scripts order scopings (λ k. 0) ≡ 0 =
      none_below (length p.tasks) (kept_at p.plant (length p.tasks) runs scripts order scopings (λ k. 0)) (λ k. refl) in
      let due : all_due p.plant (length p.tasks) runs scripts order scopings (λ k. 0) ≡ 0 =
      none_below (length p.tasks) (due_at p.plant (length p.tasks) runs scripts order scopings (λ k. 0)) (λ k. refl) in
      let called : sum_below (length p.tasks) (called_at (length p.tasks) runs (λ k. 0)) ≡ 0 = none_below (length p.tasks) (called_at (length p.tasks) runs (λ k. 0)) (λ k. refl) in
      let ends : sum_below (length p.tasks) (ends_at (length p.tasks) runs (λ k. 0)) ≡ 0 = none_below (length p.tasks) (ends_at (length p.tasks) runs (λ k. 0)) (λ k. refl) in
      record {
        spent = record {
          low = omega arith;
          credit = 0;
          stands = record { backed = λ k e. absurd (let x : Point ≡ Running k = e in cc); over = λ k e. absurd (let x : Point ≡ Running k = e in cc); fresh = λ j lt _. refl };
          time = (omega (arith, kept, due), refl);
        };
        ended = omega (arith, called, ends);
      }

  -- ---- what is left to be done

  abbrev due_of_all : ℕ
  due_of_all = sum_below (length p.tasks) total_of

  ends_of : (k : ℕ) → k < length p.tasks → (runs k).jobs ≤ (plain_run (runs k) (scripts k).count).ended
  ends_of k lt = omega (arith, (keep k lt).ends)

  some_cycle : (k n : ℕ) (d : Did) → 1 ≤ charges_by p.plant (runs k) (scopings k) n d
  some_cycle k n d = some_charge p.plant (scopings k n) (lines_at (runs k) (scopings k) n) d

  at_most : (at : ℕ → ℕ) (k : ℕ) → k < length p.tasks → due_at p.plant (length p.tasks) runs scripts order scopings at k ≤ total_of k
  at_most at k lt = omega (arith, charged_most p.plant (scripts k) (runs k) (charges_by p.plant (runs k) (scopings k)) (some_cycle k) (at k) (scripts k).count (ends_of k lt), totals k lt)

  all_most : (at : ℕ → ℕ) → all_due p.plant (length p.tasks) runs scripts order scopings at ≤ due_of_all
  all_most at = sum_le (length p.tasks) (due_at p.plant (length p.tasks) runs scripts order scopings at) total_of (at_most at)

  -- a task that has a job to do is charged an instruction and a switch
  ahead : (at : ℕ → ℕ) (k : ℕ) → k < length p.tasks → (plain_run (runs k) (at k)).ended < (runs k).jobs →
      all_due p.plant (length p.tasks) runs scripts order scopings at + (1 + p.plant.switch) ≤ due_of_all
  ahead at k lt left =
      sum_less (length p.tasks) k (1 + p.plant.switch) (due_at p.plant (length p.tasks) runs scripts order scopings at) total_of lt
      (omega (arith, charged_left p.plant (scripts k) (runs k) (charges_by p.plant (runs k) (scopings k)) (some_cycle k) (at k) (scripts k).count left (ends_of k lt), totals k lt)) (at_most at)

  -- ---- before the limit

  module _ (off : ℕ) (at : ℕ → ℕ) (s : MachineState) (kn : KnownCore p own runs at s) (h : IsKeeping at s) (l : IsLasting at s) (t : Timed off at s) where
    abbrev sched_is : Mode → Type 0
    sched_is m = Schedules p runs at s.sched m s.core.mark

    abbrev spent_is : Mode → Type 0
    spent_is m = TimeIn p.plant (length p.tasks) runs scripts order scopings 0 s.now last t.spent.credit
        (all_kept p.plant (length p.tasks) runs scripts order scopings at) (all_due p.plant (length p.tasks) runs scripts order scopings at)
        off m s.core.interval s.core.mark s.core.debt

    -- at a scheduling point some task has a job to do
    all_done : ((k : ℕ) → k < length p.tasks → (runs k).jobs ≤ (plain_run (runs k) (at k)).ended) → sched_is Point → All IsDone s.sched
    all_done all g k d lt =
        let lk : k < length p.tasks = omega (arith, lt, g.count) in
        let e : (task_at s.sched k).ended + 0 ≡ (plain_run (runs k) (at k)).ended = g.ended k lk in
        let j : (task_at s.sched k).jobs ≡ (runs k).jobs = g.jobs k lk in
        subst IsDone (sym (any s.sched k d no_task lt)) (omega (arith, e, j, all k lk)) where
          any : (xs : List TaskJobs) (k : ℕ) (d z : TaskJobs) → k < length xs → get_or xs k d ≡ get_or xs k z
          any [] k d z lt = absurd (omega (arith, lt))
          any (x ∷ xs) zero d z lt = refl
          any (x ∷ xs) (suc k) d z lt = any xs k d z (omega (arith, lt))

    abbrev Before : ℕ → Type 0
    Before idle = s.now + 1 ≤ idle + due_of_all

    point_before : is_finished s ≡ false → s.core.mode ≡ Point → spent_is Point → sched_is Point → Before off
    point_before go e x g =
        ⊎_elim (λ (all : (k : ℕ) → k < length p.tasks → (runs k).jobs ≤ (plain_run (runs k) (at k)).ended).
        absurd (not_finished s go e (choice_done s.now s.sched (all_done all g))))
        (λ (one : (k : ℕ) × (k < length p.tasks) × ((plain_run (runs k) (at k)).ended < (runs k).jobs)).
        omega (arith, x.0, ahead at one.0 one.1 one.2))
        (all_or_one (length p.tasks) (λ k. (runs k).jobs) (λ k. (plain_run (runs k) (at k)).ended))

    switch_before : (k left : ℕ) → spent_is (Switching k left) → sched_is (Switching k left) → Before off
    switch_before k left x g = omega (arith, x.0, ahead at k g.going.bound g.going.left)

    -- the interval that runs
    abbrev run_is : Bool → ℕ → Change → Type 0
    run_is b idle mark = RunTime p.plant (length p.tasks) runs scripts order scopings b s.now (owed_of s.core.debt) t.spent.credit
        (all_kept p.plant (length p.tasks) runs scripts order scopings at) (all_due p.plant (length p.tasks) runs scripts order scopings at)
        idle s.core.interval mark

    kept_of : (ph : Phase) (stated : ℕ) → is_predictable ph ≡ true → kept_by p.plant.switch ph stated ≡ stated + p.plant.switch
    kept_of Compatible stated e = absurd (let x : false ≡ true = e in cc)
    kept_of MemoryPhase stated e = refl
    kept_of Execution stated e = refl

    owes : (mark : Change) → (is_paid s.core.debt && ends_before s.now s.core.interval mark) ≡ false → ends_before s.now s.core.interval mark ≡ true → 1 ≤ owed_of s.core.debt
    owes mark on e =
        ⊎_elim (λ (unpaid : is_paid s.core.debt ≡ false). unpaid_owes s.core.debt unpaid l.clock.positive)
        (λ (out : ends_before s.now s.core.interval mark ≡ false). let x : true ≡ false = sym e ∙ out in absurd cc)
        (not_both (is_paid s.core.debt) (ends_before s.now s.core.interval mark) on)

    goes_before : (k : ℕ) (b : Bool) (idle : ℕ) (mark : Change) → s.core.interval.predictable ≡ b → k < length p.tasks →
        (plain_run (runs k) (at k)).ended < (runs k).jobs →
        Goes (phase_at runs at k) (stated_at p.plant (length p.tasks) runs scripts order scopings at k) s.core.interval →
        (b ≡ true → s.now + owed_of s.core.debt ≤ s.core.interval.first + stated_at p.plant (length p.tasks) runs scripts order scopings at k) →
        behind p.plant.switch mark ≡ 0 → until_end p.plant.switch mark s.core.interval.stated ≡ 0 → run_is b idle mark → Before idle
    goes_before k false idle mark e lt left g fits z y x = omega (arith, x, z, ahead at k lt left)
    goes_before k true idle mark e lt left g fits z y x =
        let part : kept_at p.plant (length p.tasks) runs scripts order scopings at k ≤ all_kept p.plant (length p.tasks)
        runs scripts order scopings at = sum_part (length p.tasks) k (kept_at p.plant (length p.tasks) runs scripts order scopings at) lt in
        let is : kept_at p.plant (length p.tasks) runs scripts order scopings at k
        ≡ stated_at p.plant (length p.tasks) runs scripts order scopings at k + p.plant.switch =
        kept_of (phase_at runs at k) (stated_at p.plant (length p.tasks) runs scripts order scopings at k) (g.kind ∙ e) in
        omega (arith, x, y, fits refl, part, is, ahead at k lt left)

    stated_fits : (k : ℕ) → k < length p.tasks →
        Paced order p.plant s.now (owed_of s.core.debt) s.core.interval.first (begun_at runs at k).steps (lines_in s.work.cache) →
        ((begun_at runs at k).steps ≡ [] → ⊥) →
        s.now + owed_of s.core.debt ≤ s.core.interval.first + stated_at p.plant (length p.tasks) runs scripts order scopings at k
    stated_fits k lt paced some =
        let c : Call = call_of (scripts k) (begun_at runs at k) in
        let sets : length (lines_in s.work.cache) ≡ p.plant.sets = sets_are rule order passes p own runs scripts policy keep s.work kn.position.stands.kept in
        let is : IsPlant p.plant = kept_plant p s.work.cache s.work.memory kn.position.stands.kept in
        let pos : 1 ≤ p.plant.sets = is.sets.0 in
        paced_fits order p.plant s.now (owed_of s.core.debt) s.core.interval.first c (begun_at runs at k).steps (lines_in s.work.cache) policy.once (omega (arith, pos, sets))
        (subst (λ n. HaveRoom n p.plant.ways c.members) (sym sets) ((keep k lt).room _)) (in_script p.plant passes (runs k) (scripts k) (keep k lt) (at k)) some paced

    run_before : (k : ℕ) (b : Bool) (idle : ℕ) (mark : Change) → s.core.interval.predictable ≡ b →
        Issued mark (phase_at runs at k) (stated_at p.plant (length p.tasks) runs scripts order scopings at k)
        (begun_at runs at k).steps s.core.interval → (is_paid s.core.debt && ends_before s.now s.core.interval mark) ≡ false →
        GoesOn p runs at k mark → (b ≡ true →
        InTime order p.plant mark s.now (owed_of s.core.debt) s.core.interval (begun_at runs at k).steps (lines_in s.work.cache)) →
        run_is b idle mark → Before idle
    run_before k b idle Stay e x on going time r =
        goes_before k b idle Stay e going.bound going.left x (λ y. stated_fits k going.bound (time y).0 (time y).1) refl refl r
    run_before k b idle (Execute stated) e x on going time r =
        goes_before k b idle (Execute stated) e going.bound going.left x (λ y. stated_fits k going.bound (time y).0 (time y).1) refl refl r
    run_before k false idle Memory e x on going time r = omega (arith, r, owes Memory on refl, all_most at)
    run_before k true idle Memory e x on going time r = absurd (let z : false ≡ true = sym x.0 ∙ e in cc)
    run_before k false idle Job e x on going time r = omega (arith, r, owes Job on refl, all_most at)
    run_before k true idle Job e x on going time r = absurd (let z : false ≡ true = sym x.0 ∙ e in cc)
    run_before k false idle End e x on going time r = absurd (let z : true ≡ false = sym x.0 ∙ e in cc)
    run_before k true idle End e x on going time r =
        ⊎_elim (λ (unpaid : is_paid s.core.debt ≡ false). omega (arith, r, time refl, unpaid_owes s.core.debt unpaid l.clock.positive, all_most at))
        (λ (out : ends_before s.now s.core.interval End ≡ false). omega (arith, r, leb-false (s.core.interval.first + s.core.interval.stated) s.now out, all_most at))
        (not_both (is_paid s.core.debt) (ends_before s.now s.core.interval End) on)

    -- what has passed
    pub core_most : s.now ≤ off + due_of_all
    core_most = by s.core.mode refl t.spent.time kn.position.schedules where
      by : (m : Mode) → s.core.mode ≡ m → spent_is m → sched_is m → s.now ≤ off + due_of_all
      by Point e x g = omega (arith, x.0, all_most at)
      by (Switching k left) e x g = omega (arith, switch_before k left x g)
      by (Idle until) e x g = omega (arith, x.0, all_most at)
      by (Running k) e x g =
          omega (arith, run_before k s.core.interval.predictable off s.core.mark refl (h.resides.runs_in k e).issued (l.goes_on k e) g.going (l.clock.in_time k e) x)

    -- where it hasn't finished it works, or comes before the last release
    pub core_before : is_finished s ≡ false → (Before off) ⊎ (s.now < last)
    core_before go = by s.core.mode refl t.spent.time kn.position.schedules where
      by : (m : Mode) → s.core.mode ≡ m → spent_is m → sched_is m → (Before off) ⊎ (s.now < last)
      by Point e x g = inl (point_before go e x g)
      by (Switching k left) e x g = inl (switch_before k left x g)
      by (Idle until) e x g = let y : s.now < until + 0 = x.2 in let z : until ≤ last = x.3 in inr (omega arith)
      by (Running k) e x g =
          inl (run_before k s.core.interval.predictable off s.core.mark refl (h.resides.runs_in k e).issued (l.goes_on k e) g.going (l.clock.in_time k e) x)

    -- ---- the logs

    outputs_room : sum_below (length p.tasks) (λ k. length (plain_run (runs k) (scripts k).count).task.outputs) < log_size → output_count s.work.tasks < log_size
    outputs_room h =
        let st : Stands p own runs at s.work = kn.position.stands in
        let listed : output_count s.work.tasks ≡ sum_below (length s.work.tasks) (λ k. length (task_in s.work k).outputs) =
        sum_list (λ (x : Task). length x.outputs) s.work.tasks (first_task no_record []) in
        let count : sum_below (length s.work.tasks) (λ k. length (task_in s.work k).outputs)
        ≡ sum_below (length p.tasks) (λ k. length (task_in s.work k).outputs) = ap (λ n. sum_below n (λ k. length (task_in s.work k).outputs)) st.count in
        let most : sum_below (length p.tasks) (λ k. length (task_in s.work k).outputs) ≤ sum_below (length p.tasks) (λ k. length (plain_run (runs k) (scripts k).count).task.outputs) =
        sum_le (length p.tasks) (λ k. length (task_in s.work k).outputs) (λ k. length (plain_run (runs k) (scripts k).count).task.outputs)
        (λ k lt. subst (λ (x : PlainState). length x.task.outputs ≤ length (plain_run (runs k) (scripts k).count).task.outputs) (sym (st.each k lt).same)
        (outputs_most (runs k) (at k) (scripts k).count (ends_of k lt))) in
        room _ _ _ _ log_size listed count most h where
          room : (a b c d l : ℕ) → a ≡ b → b ≡ c → c ≤ d → d < l → a < l
          room a b c d l x y z w = omega (arith, x, y, z, w)

    intervals_room : sum_below (length p.tasks) (λ k. interval_count (runs k) (scripts k)) < log_size → length s.log.intervals < log_size
    intervals_room h =
        let most : sum_below (length p.tasks) (ends_at (length p.tasks) runs at) ≤ sum_below (length p.tasks) (λ k. interval_count (runs k) (scripts k)) =
        sum_le (length p.tasks) (ends_at (length p.tasks) runs at) (λ k. interval_count (runs k) (scripts k))
        (λ k lt. omega (arith, calls_most (runs k) (at k) (scripts k).count (ends_of k lt), (keep k lt).calls_are, ended_most (runs k) (at k))) in
        room (length s.log.intervals) _ _ _ _ log_size t.ended most h where
          room : (a b c d e l : ℕ) → a + b + c ≡ d → d ≤ e → e < l → a < l
          room a b c d e l x y z = omega (arith, x, y, z)

    -- neither log is full
    pub core_room : sum_below (length p.tasks) (λ k. length (plain_run (runs k) (scripts k).count).task.outputs) < log_size →
        sum_below (length p.tasks) (λ k. interval_count (runs k) (scripts k)) < log_size → is_full s ≡ false
    core_room outs ints = both_room (output_count s.work.tasks) (length s.log.intervals) log_size (outputs_room outs) (intervals_room ints)
