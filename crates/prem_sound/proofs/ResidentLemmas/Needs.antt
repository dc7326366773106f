-- When a core needs the bus: in a switch, and in an interval before its `pm.exec`. In each other part it owes no transaction.
use Rattle.std.proofs.Common.{◌≡◌, ℕ, ◌+◌, ◌-◌, ◌<◌, refl, ap, ◌∙◌, sym, subst, ltb, Some, true, false, Bool, List, length, inl, inr}
use Rattle.std.specs.Prelude.{◌&&◌, not, is_some}
use Rattle.prem_sound.proofs.Prelude.{MoveCase, pays_on_bus, is_denied, pays_cost, waits, goes_on, switches, begins, chooses, chooses_now, begins_idle, has_finished, idles, wants_none}
use Rattle.prem_sound.proofs.Prelude.{paid_none, issuing_did, MayMove, does, stands_still, turn_with, Moves as Scheduled, bump, Stands, Issuing, Runs, bump_move, issuing, want_of, is_paid}
use Rattle.prem_sound.proofs.Prelude.{CoreMove, Passes, Issues, phase_in, CoreTurn, core_issue, core_turn, Arrivals, with_memory, with_clash, ends_before, at_point, close_interval, settle}
use Rattle.prem_sound.proofs.Prelude.{with_now, next_cycle, ticked, issued_by, is_execution, Setup, Work, CoreState, Counts, MachineState, start_of, task_in, Interval, Mode, Point}
use Rattle.prem_sound.proofs.Prelude.{Switching, Running, Idle, Turned, wants, phase_after, IsLawful, cost_of, TaskRun, Did, did_of, plain_did, plain_run, Change, Stay, Memory, Execute, End}
use Rattle.prem_sound.proofs.Prelude.{Job, Phase, Compatible, Execution, ReplacementRule, lines_in, OrderRule, TaskJobs, IsPolicy, Script, and_parts, cond_both}
use Rattle.prem_isa.specs.declared.effect.Phase.TheVariants.{Memory as MemoryPhase}
use Rattle.prem_sound.proofs.ResidentLemmas.Counted.{owed_none}
use Rattle.prem_sound.proofs.ResidentLemmas.Facing.{Meets, Faces, Comes}
use Rattle.prem_sound.proofs.ResidentLemmas.Keeps.{owes_none, same_phase, KeepScripts, issue_hits}
use Rattle.prem_sound.proofs.ResidentLemmas.Residents.{opens, MustHit, phase_at, Moves, bump_run}
use Rattle.prem_sound.proofs.ScriptLemmas.Begins.{Executed, executed, next_phase, did_lawful}

-- ---- the parts that need it

-- behind an instruction with this change, of a task that is then in this phase
abbrev pub may_miss : Phase → Change → Bool
may_miss phase Stay = not (is_execution phase)
may_miss phase Memory = true
may_miss phase (Execute stated) = false
may_miss phase End = false
may_miss phase Job = true

abbrev pub needs_in : (ℕ → Phase) → Change → Mode → Bool
needs_in phases mark Point = false
needs_in phases mark (Switching k left) = true
needs_in phases mark (Running k) = may_miss (phases k) mark
needs_in phases mark (Idle until) = false

-- a core that owes a transaction is in such a part; behind a `pm.exec` its task is in the execution phase
pub record Needs (phases : ℕ → Phase) (c : CoreState) : Type 0 where
  pub owes : wants (want_of c.debt) ≡ true → needs_in phases c.mark c.mode ≡ true
  pub executes : (k : ℕ) → c.mode ≡ Running k → opens c.mark ≡ true → phases k ≡ Execution

abbrev pub NeedsIn : Work → CoreState → Type 0
NeedsIn w c = Needs (phase_in w) c

-- ---- the move

abbrev NeedsMove : (ℕ → Phase) → CoreMove → Type 0
NeedsMove phases (Passes c) = Needs phases c
NeedsMove phases (Issues k i) = Unit {0}

rests_so : (phases : ℕ → Phase) (c c' : CoreState) → wants (want_of c.debt) ≡ false → c'.debt ≡ c.debt → ((k : ℕ) → c'.mode ≡ Running k → ⊥) → Needs phases c'
rests_so phases c c' q e none = record {
  owes = λ y. absurd (let x : false ≡ true = sym q ∙ ap (λ d. wants (want_of d)) (sym e) ∙ y in cc);
  executes = λ k x. absurd (none k x);
}

needs_moves : (phases : ℕ → Phase) (p : Setup) (now : ℕ) (had : Bool) (sched : List TaskJobs) (w : Work) (c : CoreState) (m : CoreMove) →
    MoveCase p now had sched w c m → Needs phases c → NeedsMove phases m
needs_moves phases p now had sched w c _ (pays_on_bus q h) r = record { owes = λ _. r.owes q; executes = r.executes }
needs_moves phases p now had sched w c _ (is_denied q h) r = r
needs_moves phases p now had sched w c _ (pays_cost k cost q e h) r = record { owes = λ y. absurd (let x : false ≡ true = sym q ∙ y in cc); executes = r.executes }
needs_moves phases p now had sched w c _ (waits k q e h x) r = r
needs_moves phases p now had sched w c _ (has_finished q e h) r = r
needs_moves phases p now had sched w c _ (idles until q e) r = r
needs_moves phases p now had sched w c _ (goes_on k q e h x) r = tt
needs_moves phases p now had sched w c _ (begins k q e) r = tt
needs_moves phases p now had sched w c _ (chooses_now k q e h z) r = tt
needs_moves phases p now had sched w c _ (switches k left q e) r =
    rests_so phases c (record c { mode = Switching k left }) q refl (λ j x. let y : Switching k left ≡ Running j = x in cc)
needs_moves phases p now had sched w c _ (chooses k left q e h z) r =
    rests_so phases c (record c { mode = Switching k left }) q refl (λ j x. let y : Switching k left ≡ Running j = x in cc)
needs_moves phases p now had sched w c _ (begins_idle until q e h) r = record {
  owes = λ y. absurd (let x : false ≡ true = sym q ∙ y in cc);
  executes = λ j x. absurd (let y : Idle until ≡ Running j = x in cc);
}

may_need : (phases : ℕ → Phase) (p : Setup) (now : ℕ) (had : Bool) (sched : List TaskJobs) (w : Work) (c : CoreState) (m : CoreMove) →
    MayMove p now had sched w c m → Needs phases c → NeedsMove phases m
may_need phases p now had sched w c _ (does m x) r = needs_moves phases p now had sched w c m x r
may_need phases p now had sched w c _ (stands_still e) r = r

-- ---- an instruction

-- one that may miss stands in such a part
missing : (ph next : Phase) (c : Change) → IsLawful ph c → next ≡ phase_after c ph → (MustHit ph c → ⊥) → may_miss next c ≡ true
missing ph next Memory l e never = refl
missing ph next Job l e never = refl
missing ph next (Execute stated) l e never = absurd (never (inr refl))
missing ph next End l e never = absurd (never (inl (ap is_execution l)))
missing Compatible next Stay l e never = ap (λ x. not (is_execution x)) e
missing MemoryPhase next Stay l e never = ap (λ x. not (is_execution x)) e
missing Execution next Stay l e never = absurd (never (inl refl))

opened : (ph next : Phase) (c : Change) → next ≡ phase_after c ph → opens c ≡ true → next ≡ Execution
opened ph next (Execute stated) e o = e
opened ph next Stay e o = absurd (let x : false ≡ true = o in cc)
opened ph next Memory e o = absurd (let x : false ≡ true = o in cc)
opened ph next End e o = absurd (let x : false ≡ true = o in cc)
opened ph next Job e o = absurd (let x : false ≡ true = o in cc)

-- what is known of an instruction that issues in a state
pub record IssuesSo (ph next : Phase) (change : Change) : Type 0 where
  pub lawful : IsLawful ph change
  pub follows : next ≡ phase_after change ph

module _ (rule : ReplacementRule) (order : OrderRule) (passes : ℕ → ℕ) (p : Setup) (own : ℕ → ℕ → Bool) (runs : ℕ → TaskRun) (scripts : ℕ → Script)
    (policy : IsPolicy rule order passes) (keep : KeepScripts p passes runs scripts) (rs : Runs p own runs) where
  -- the phases around an instruction
  issues_so : (at : ℕ → ℕ) (k : ℕ) (w w' : Work) → Stands p own runs at w → Stands p own runs (bump k at) w' → k < length p.tasks →
      (x : Issuing p (own k) (runs k) (at k) k w) →
      plain_did (runs k) (plain_run (runs k) (at k)) ≡ Some (did_of (task_in w k).pc (task_in w k).phase x.instr x.effect) →
      IssuesSo (phase_in w k) (phase_in w' k) x.effect.change
  issues_so at k w w' s s' lt x did =
      let d : Did = did_of (task_in w k).pc (task_in w k).phase x.instr x.effect in
      let e : Executed (runs k) (plain_run (runs k) (at k)) d = executed (runs k) (plain_run (runs k) (at k)) d did in
      let same : phase_in w k ≡ phase_at runs at k = same_phase rule order passes p own runs scripts policy keep at w k (s.each k lt) in
      record {
        lawful = subst (λ ph. IsLawful ph x.effect.change) (sym same) (did_lawful (runs k) (plain_run (runs k) (at k)) d e);
        follows =
            same_phase rule order passes p own runs scripts policy keep (bump k at) w' k (s'.each k lt)
            ∙ ap (λ t. t.task.phase) (bump_run order p.plant (length p.tasks) runs scripts at (lines_in w.cache) k) ∙ next_phase (runs k) (plain_run (runs k) (at k)) d e
            ∙ ap (phase_after x.effect.change) (sym same);
      }

  -- what the core's part leaves
  pub record TurnNeeds (m : CoreMove) (phases : ℕ → Phase) (t : CoreTurn) : Type 0 where
    pub needs : NeedsIn t.work t.core
    pub issued : (k : ℕ) (i : Interval) → m ≡ Issues k i → (t.core.mode ≡ Running k) × IssuesSo (phases k) (phase_in t.work k) t.core.mark

  turn_needs : (at : ℕ → ℕ) (now : ℕ) (sched : List TaskJobs) (m : CoreMove) (w : Work) (c : CoreState) (n : Counts) → Stands p own runs at w →
      Stands p own runs (bump_move m at) (core_turn rule p now m w c n).work → Scheduled p runs at sched m →
      Moves order p.plant (length p.tasks) runs scripts at (lines_in w.cache) m → NeedsMove (phase_in w) m →
      TurnNeeds m (phase_in w) (core_turn rule p now m w c n)
  turn_needs at now sched (Passes c') w c n s s' j r h = record { needs = h; issued = λ k i e. absurd (let x : Passes c' ≡ Issues k i = e in cc) }
  turn_needs at now sched (Issues k i) w c n s s' j r h =
      let lt : k < length p.tasks = j.unfinished.bound in
      let x : Issuing p (own k) (runs k) (at k) k w = issuing p own runs at w k rs s j.unfinished in
      let did : plain_did (runs k) (plain_run (runs k) (at k)) ≡ Some (did_of (task_in w k).pc (task_in w k).phase x.instr x.effect) = issuing_did p (own k) runs at k w j.unfinished (s.each k lt) x in
      subst (λ a. Stands p own runs (bump k at) (core_issue rule p now k i a w c n).work → TurnNeeds (Issues k i) (phase_in w) (core_issue rule p now k i a w c n)) (sym (x.behind rule policy.keeps))
      (λ st.
      let so : IssuesSo (phase_in w k) (phase_in (issued_by rule p k x.effect w).work k) x.effect.change = issues_so at k w (issued_by rule p k x.effect w).work s st lt x did in
      record {
        needs = record {
          owes = λ y.
              missing (phase_in w k) (phase_in (issued_by rule p k x.effect w).work k) x.effect.change so.lawful so.follows
              (λ must. owes_none _ (cost_of x.instr - 1)
              (owed_none p.plant (issued_by rule p k x.effect w).touches
              (issue_hits rule order passes p own runs scripts policy keep at k i w s rs lt x did r must)) y);
          executes = λ q e o.
              let z : Running k ≡ Running q = e in
              let same : k ≡ q = cc in
              subst (λ n. phase_in (issued_by rule p k x.effect w).work n ≡ Execution) same (opened (phase_in w k) (phase_in (issued_by rule p k x.effect w).work k) x.effect.change so.follows o);
        };
        issued = λ q f e.
            let z : Issues k i ≡ Issues q f = e in
            let same : k ≡ q = cc in
            subst (λ n. (Running k ≡ Running n) × IssuesSo (phase_in w n) (phase_in (issued_by rule p k x.effect w).work n) x.effect.change) same (refl, so);
      }) s'

  -- behind the core's part of a cycle
  pub core_turns : (at : ℕ → ℕ) (a : Arrivals) (b : Turned) (m : CoreMove) (s : MachineState) → NeedsIn s.work s.core → Meets p own b m s →
      Faces rule order passes p own runs scripts policy keep rs at b m s → Comes rule order passes p own runs scripts policy keep rs at a b m s →
      TurnNeeds m (phase_in s.work) (turn_with rule p b m s)
  core_turns at a b m s h meets f c =
      turn_needs at s.now s.sched m (with_memory b.memory s.work) s.core (with_clash b.turn.clash s.log.counts) f.stands c.position.stands f.scheduled f.moves_to
      (may_need (phase_in s.work) p s.now b.turn.core s.sched (with_memory b.memory s.work) s.core m meets.may h)

-- ---- the end of a cycle

settle_needs : (m : Mode) (s : MachineState) → s.core.mode ≡ m → NeedsIn s.work s.core → NeedsIn (settle m s).work (settle m s).core
settle_needs Point s e h = h
settle_needs (Switching k left) s e h = h
settle_needs (Running k) s e h =
    cond_both (is_paid s.core.debt && ends_before s.now s.core.interval s.core.mark) (close_interval k s) s (λ (x : MachineState). NeedsIn x.work x.core)
    (λ over. rests_so (phase_in s.work) s.core (at_point s.core)
    (wants_none s.core.debt (paid_none s.core.debt (and_parts (is_paid s.core.debt) (ends_before s.now s.core.interval s.core.mark) over).0)) refl
    (λ j x. let y : Point ≡ Running j = x in cc))
    (λ _. h)
settle_needs (Idle until) s e h =
    cond_both (ltb s.now until) s (record s { core = at_point s.core }) (λ (x : MachineState). NeedsIn x.work x.core) (λ _. h)
    (λ _. record {
      owes = λ y. subst (λ m. wants (want_of s.core.debt) ≡ true → needs_in (phase_in s.work) s.core.mark m ≡ true) e h.owes y;
      executes = λ j x. absurd (let y : Point ≡ Running j = x in cc);
    })

pub ticked_needs : (s : MachineState) → NeedsIn s.work s.core → NeedsIn (ticked s).work (ticked s).core
ticked_needs s h =
    cond_both (is_some s.trapped) s (next_cycle s) (λ (x : MachineState). NeedsIn x.work x.core) (λ _. h)
    (λ _. settle_needs s.core.mode (with_now s (s.now + 1)) refl h)

pub start_needs : (p : Setup) (inputs : List (List ℕ)) (memory : List ℕ) → NeedsIn (start_of p inputs memory).work (start_of p inputs memory).core
start_needs p inputs memory = record { owes = λ y. absurd (let x : false ≡ true = y in cc); executes = λ k e. absurd (let x : Point ≡ Running k = e in cc) }
