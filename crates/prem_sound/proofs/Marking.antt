-- A cycle of a core whose tasks keep to their scripts: its predictable intervals are those of the marked calls that are promised.
use Rattle.std.proofs.Common.{◌≡◌, ℕ, ◌+◌, ◌-◌, ◌<◌, ◌≤◌, refl, ap, ◌∙◌, sym, subst, arith, cond, ltb, true, false, Bool, Some, None, List, length, ⊎_elim}
use Rattle.std.specs.Prelude.{is_some, ◌&&◌}
use Rattle.prem_sound.proofs.Prelude.{settle_keeps as settles, issuing_did, MayMove, does, stands_still, turn_with, Moves as Scheduled, bump, Stands, Issuing, Runs, bump_move, issuing}
use Rattle.prem_sound.proofs.Prelude.{is_paid, CoreMove, Passes, Issues, is_predictable, phase_in, stated_after, core_issue, core_turn, Arrivals, with_memory, with_clash, joined}
use Rattle.prem_sound.proofs.Prelude.{ends_before, ended_interval, at_point, close_interval, settle, with_now, next_cycle, ticked, Setup, Work, CoreState, Counts, MachineState, start_of}
use Rattle.prem_sound.proofs.Prelude.{task_in, EndedInterval, Interval, Mode, Point, Switching, Running, Idle, Turned, TaskRun, Did, did_of, plain_did, plain_steps, plain_run, Change, End}
use Rattle.prem_sound.proofs.Prelude.{Stay, Memory, Execute, Job, Phase, Compatible, Execution, ReplacementRule, lines_in, OrderRule, TaskJobs, predictable_of, read_in, IsOfMark}
use Rattle.prem_sound.proofs.Prelude.{GivesPromised, IsPolicy, begun_by, call_of, Script, Promise, mark_at, AreKept, and_parts, cases_eq, cond_both}
use Rattle.prem_isa.specs.declared.effect.Phase.TheVariants.{Memory as MemoryPhase}
use Rattle.prem_sound.proofs.CallRuns.{same_begun, calls_most, end_compatible, fresh_before}
use Rattle.prem_sound.proofs.Ends.{Gives, reads_as, gives, finished_ended}
use Rattle.prem_sound.proofs.Marks.{one_predictable, ending, ending_same, rests, last_mark, Marked, MayMark, MarkMove, mark_moves, other_marks, own_marks, mark_ends}
use Rattle.prem_sound.proofs.ResidentLemmas.Facing.{KnownCore, Meets, Faces, Comes}
use Rattle.prem_sound.proofs.ResidentLemmas.Keeps.{KeepScripts, Keeps}
use Rattle.prem_sound.proofs.ResidentLemmas.Residents.{phase_at, begun_at, InInterval, Resides, MayIssue, Moves, bump_run, bump_begun, Issued}
use Rattle.prem_sound.proofs.ScriptLemmas.Begins.{Executed, executed, next_phase, did_lawful}

one_by : (phase : Phase) → is_predictable phase ≡ true → one_predictable phase ≡ 1
one_by Compatible h = absurd (let z : false ≡ true = h in cc)
one_by MemoryPhase h = refl
one_by Execution h = refl

-- in a predictable interval one call is open
one_open : (mark : Change) (phase : Phase) (stated : ℕ) (ds : List Did) (i : Interval) (k : ℕ) → Issued mark phase stated ds i →
    i.predictable ≡ true → one_predictable phase + ending (Running k) mark k ≡ 1
one_open Stay phase stated ds i k x pred = omega (arith, one_by phase (x.kind ∙ pred), ending_same k Stay)
one_open (Execute l) phase stated ds i k x pred = omega (arith, one_by phase (x.kind ∙ pred), ending_same k (Execute l))
one_open Memory phase stated ds i k x pred = absurd (let z : false ≡ true = sym x.0 ∙ pred in cc)
one_open End phase stated ds i k x pred = omega (arith, ap one_predictable x.1, ending_same k End)
one_open Job phase stated ds i k x pred = absurd (let z : false ≡ true = sym x.0 ∙ pred in cc)

-- a move that may be none
may_mark : (works : ℕ → Work) (k : ℕ) (q : Promise) (runs : ℕ → TaskRun) (at : ℕ → ℕ) (now : ℕ) (intervals : List EndedInterval) (p : Setup)
    (had : Bool) (sched : List TaskJobs) (w : Work) (c : CoreState) (m : CoreMove) → MayMove p now had sched w c m →
    ((j : ℕ) → j ≡ k → is_predictable (phase_in w j) ≡ true → (c.mode ≡ Running k → ⊥) →
    read_in q.reads (works now) ≡ (last_mark works k q runs at).before) → Marked works k q runs now at c.mode c.interval c.mark intervals →
    MarkMove works k q runs now at intervals m
may_mark works k q runs at now intervals p had sched w c _ (does m x) b r = mark_moves works k q runs at now intervals p had sched w c m x b r
may_mark works k q runs at now intervals p had sched w c _ (stands_still e) b r = r

module _ (rule : ReplacementRule) (order : OrderRule) (passes : ℕ → ℕ) (p : Setup) (own : ℕ → ℕ → Bool) (runs : ℕ → TaskRun) (scripts : ℕ → Script)
    (policy : IsPolicy rule order passes) (keep : KeepScripts p passes runs scripts) (promises : ℕ → Promise)
    (kept : AreKept p own runs scripts promises) (works : ℕ → Work) where
  abbrev pub MarksAt : (ℕ → ℕ) → (now : ℕ) → Mode → Interval → Change → List EndedInterval → Type 0
  MarksAt at now mode i mark intervals = (k : ℕ) → k < length p.tasks → Marked works k (promises k) runs now at mode i mark intervals

  -- the states of the run have had these works
  abbrev pub MarksIn : (ℕ → ℕ) → MachineState → Type 0
  MarksIn at s = MarksAt at s.now s.core.mode s.core.interval s.core.mark s.log.intervals

  abbrev MayIssueAt : (ℕ → ℕ) → Work → ℕ → Interval → Type 0
  MayIssueAt at w k i = MayIssue order p.plant (length p.tasks) runs scripts at (lines_in w.cache) k i

  -- ---- the core's part

  issue_marks : (at : ℕ → ℕ) (now j : ℕ) (i : Interval) (w : Work) (intervals : List EndedInterval) → Stands p own runs at w → j < length p.tasks →
      (x : Issuing p (own j) (runs j) (at j) j w) →
      plain_did (runs j) (plain_run (runs j) (at j)) ≡ Some (did_of (task_in w j).pc (task_in w j).phase x.instr x.effect) → MayIssueAt at w j i →
      ((k : ℕ) → k < length p.tasks → MayMark works k (promises k) runs now at j i intervals) →
      MarksAt (bump j at) now (Running j) (record i { stated = stated_after x.effect.change i.stated }) x.effect.change intervals
  issue_marks at now j i w intervals s lj x did may h k lt =
      let d : Did = did_of (task_in w j).pc (task_in w j).phase x.instr x.effect in
      let e : Executed (runs j) (plain_run (runs j) (at j)) d = executed (runs j) (plain_run (runs j) (at j)) d did in
      ⊎_elim (λ (same : k ≡ j).
      subst (λ n. Marked works n (promises n) runs now (bump j at) (Running j) (record i { stated = stated_after x.effect.change i.stated }) x.effect.change intervals) (sym same)
      (own_marks works j (promises j) runs at now intervals i d (call_of (scripts j) (begun_at runs at j)).stated did (did_lawful (runs j) (plain_run (runs j) (at j)) d e)
      (ap (λ t. t.task.phase) (bump_run order p.plant (length p.tasks) runs scripts at (lines_in w.cache) j) ∙ next_phase (runs j) (plain_run (runs j) (at j)) d e)
      (bump_begun order p.plant (length p.tasks) runs scripts at (lines_in w.cache) j d did) may.goes
      (λ y. (kept j lj).after (at j) d did y) (h j lj)))
      (λ (ne : k ≡ j → ⊥). other_marks works k (promises k) runs at now intervals j i x.effect.change ne (h k lt))
      (cases_eq k j)

  turn_marks : (at : ℕ → ℕ) (now : ℕ) (sched : List TaskJobs) (m : CoreMove) (w : Work) (c : CoreState) (n : Counts)
      (intervals : List EndedInterval) → Stands p own runs at w → Runs p own runs → Scheduled p runs at sched m →
      Moves order p.plant (length p.tasks) runs scripts at (lines_in w.cache) m →
      ((k : ℕ) → k < length p.tasks → MarkMove works k (promises k) runs now at intervals m) →
      MarksAt (bump_move m at) now (core_turn rule p now m w c n).core.mode (core_turn rule p now m w c n).core.interval
      (core_turn rule p now m w c n).core.mark intervals
  turn_marks at now sched (Passes c') w c n intervals s rs j r h = h
  turn_marks at now sched (Issues k i) w c n intervals s rs j r h =
      let x : Issuing p (own k) (runs k) (at k) k w = issuing p own runs at w k rs s j.unfinished in
      subst (λ a. MarksAt (bump k at) now (core_issue rule p now k i a w c n).core.mode (core_issue rule p now k i a w c n).core.interval
      (core_issue rule p now k i a w c n).core.mark intervals) (sym (x.behind rule policy.keeps))
      (issue_marks at now k i w intervals s j.unfinished.bound x (issuing_did p (own k) runs at k w j.unfinished (s.each k j.unfinished.bound) x) r h)

  -- ---- the end of a cycle

  later : (at : ℕ → ℕ) (now : ℕ) (mode : Mode) (i : Interval) (mark : Change) (intervals : List EndedInterval) → MarksAt at now mode i mark intervals → MarksAt at (now + 1) mode i mark intervals
  later at now mode i mark intervals h k lt =
      let x : Marked works k (promises k) runs now at mode i mark intervals = h k lt in
      record { logged = x.logged; each = x.each; begun = λ e. (let y : i.first ≤ now = x.begun e in omega arith); before = x.before; after = x.after }

  -- how a call's interval ends
  made : (at : ℕ → ℕ) (s : MachineState) (k : ℕ) → k < length p.tasks → Stands p own runs at s.work → works s.now ≡ s.work → s.core.mode ≡ Running k →
      s.core.mark ≡ End → InInterval order p.plant (length p.tasks) runs scripts at (lines_in s.work.cache) k s.core.interval End → MarksIn at s →
      IsOfMark works (promises k).reads (mark_at (promises k).marks ((begun_at runs at k).calls - 1)) (ended_interval s.now k s.core.interval)
  made at s k lt st here run last inside h =
      let pr : Promise = promises k in
      let sc : Script = scripts k in
      let i : Interval = s.core.interval in
      let x : Marked works k pr runs s.now at (Running k) i End s.log.intervals =
      subst (λ c. Marked works k pr runs s.now at (Running k) i c s.log.intervals) last (subst (λ m. Marked works k pr runs s.now at m i s.core.mark s.log.intervals) run (h k lt)) in
      let n : ℕ = (begun_at runs at k).calls in
      let count : length (predictable_of k s.log.intervals) + one_predictable (phase_at runs at k) + ending (Running k) End k ≡ n = x.logged in
      let one : ending (Running k) End k ≡ 1 = ending_same k End in
      let ends : (runs k).jobs ≤ (plain_run (runs k) sc.count).ended = omega (arith, (keep k lt).ends) in
      let most : n ≤ (begun_by (runs k) sc.count).calls = calls_most (runs k) (at k) sc.count ends in
      let below : n - 1 < length sc.calls = omega (arith, most, (keep k lt).calls_are, count, one) in
      let whole : i.first + (s.now - i.first) ≡ s.now = let y : i.first ≤ s.now = x.begun refl in omega arith in
      record {
        stated = inside.issued.2 ∙ sym ((kept k lt).stated (n - 1) below);
        before = x.before refl inside.issued.0;
        after =
            ap (λ m. read_in pr.reads (works m)) whole ∙ ap (read_in pr.reads) here
            ∙ reads_as p own runs at s.work k sc pr st lt (kept k lt) ∙ x.after refl refl;
      }

  settle_marks : (at : ℕ → ℕ) (m : Mode) (s : MachineState) → s.core.mode ≡ m → Stands p own runs at s.work → works s.now ≡ s.work →
      Resides order p.plant (length p.tasks) runs scripts at (lines_in s.work.cache) s.core.mode s.core.interval s.core.mark → MarksIn at s →
      MarksIn at (settle m s)
  settle_marks at Point s e st here r h = h
  settle_marks at (Switching k left) s e st here r h = h
  settle_marks at (Running j) s e st here r h =
      cond_both (is_paid s.core.debt && ends_before s.now s.core.interval s.core.mark) (close_interval j s) s (MarksIn at)
      (λ over k lt.
      let inside : InInterval order p.plant (length p.tasks) runs scripts at (lines_in s.work.cache) j s.core.interval s.core.mark = r.runs_in j e in
      mark_ends works k (promises k) runs s.now at j s.core.interval s.core.mark s.log.intervals (phase_at runs at j) (call_of (scripts j) (begun_at runs at j)).stated (begun_at runs at j).steps
      (and_parts (is_paid s.core.debt) (ends_before s.now s.core.interval s.core.mark) over).1 refl inside.issued
      (λ same last.
      made at s k lt st here (e ∙ ap (λ n. Running n) same) last
      (subst (λ c. InInterval order p.plant (length p.tasks) runs scripts at (lines_in s.work.cache) k s.core.interval c) last (r.runs_in k (e ∙ ap (λ n. Running n) same))) h)
      (subst (λ m. Marked works k (promises k) runs s.now at m s.core.interval s.core.mark s.log.intervals) e (h k lt)))
      (λ _. h)
  settle_marks at (Idle until) s e st here r h =
      cond_both (ltb s.now until) s (record s { core = at_point s.core }) (MarksIn at) (λ _. h)
      (λ _ k lt.
      rests works k (promises k) runs at s.now s.log.intervals s.core.interval s.core.mark (Idle until) Point refl refl (λ z. let y : Point ≡ Running k = z in cc)
      (subst (λ m. Marked works k (promises k) runs s.now at m s.core.interval s.core.mark s.log.intervals) e (h k lt)))

  next_work : (s : MachineState) → (next_cycle s).work ≡ s.work
  next_work s = (settles s.core.mode (with_now s (s.now + 1))).work

  ticked_work : (s : MachineState) → (ticked s).work ≡ s.work
  ticked_work s = cond_both (is_some s.trapped) s (next_cycle s) (λ (t : MachineState). t.work ≡ s.work) (λ _. refl) (λ _. next_work s)

  ticked_marks : (at : ℕ → ℕ) (s : MachineState) → s.trapped ≡ None → Stands p own runs at s.work → works (s.now + 1) ≡ s.work →
      Resides order p.plant (length p.tasks) runs scripts at (lines_in s.work.cache) s.core.mode s.core.interval s.core.mark → MarksIn at s →
      MarksIn at (ticked s)
  ticked_marks at s u st here r h =
      subst (λ t. MarksIn at (cond (is_some t) s (next_cycle s))) (sym u)
      (settle_marks at s.core.mode (with_now s (s.now + 1)) refl st here r (later at s.now s.core.mode s.core.interval s.core.mark s.log.intervals h))

  -- ---- a cycle

  -- behind the end of the cycle
  pub core_marks : (rs : Runs p own runs) (at : ℕ → ℕ) (a : Arrivals) (b : Turned) (m : CoreMove) (s : MachineState) → KnownCore p own runs at s →
      Keeps rule order passes p own runs scripts policy keep at s → works s.now ≡ s.work →
      works (s.now + 1) ≡ (ticked (joined a b (turn_with rule p b m s) s)).work → MarksIn at s → Meets p own b m s →
      Faces rule order passes p own runs scripts policy keep rs at b m s → Comes rule order passes p own runs scripts policy keep rs at a b m s →
      MarksIn (bump_move m at) (ticked (joined a b (turn_with rule p b m s) s))
  core_marks rs at a b m s kn h here next marks meets f c =
      let w : Work = with_memory b.memory s.work in
      let n : Counts = with_clash b.turn.clash s.log.counts in
      let mm : (k : ℕ) → k < length p.tasks → MarkMove works k (promises k) runs s.now at s.log.intervals m =
      (λ k lt. may_mark works k (promises k) runs at s.now s.log.intervals p b.turn.core s.sched w s.core m meets.may
      (λ j same pred none.
      let pk : is_predictable (phase_at runs at k) ≡ true = ap is_predictable (sym (f.phases.same k lt)) ∙ ap (λ x. is_predictable (phase_in w x)) (sym same) ∙ pred in
      ap (read_in (promises k).reads) here ∙ reads_as p own runs at s.work k (scripts k) (promises k) kn.position.stands lt (kept k lt)
      ∙ fresh_before (own k) (runs k) (scripts k) (promises k) (kept k lt) (at k) pk (h.resides.rests k lt none pk))
      (marks k lt)) in
      let j : MachineState = joined a b (turn_with rule p b m s) s in
      ticked_marks (bump_move m at) j c.position.untrapped c.position.stands (next ∙ ticked_work j) c.turn.resides
      (turn_marks at s.now s.sched m w s.core n s.log.intervals f.stands rs f.scheduled f.moves_to mm)

  -- ---- the start

  pub start_marks : (inputs : List (List ℕ)) (memory : List ℕ) → MarksIn (λ k. 0) (start_of p inputs memory)
  unfolding begun_by plain_steps
  start_marks inputs memory k lt = record {
    logged = refl;
    each = λ n e x. absurd (let y : None ≡ Some e = x in cc);
    begun = λ e. absurd (let x : Point ≡ Running k = e in cc);
    before = λ e. absurd (let x : Point ≡ Running k = e in cc);
    after = λ e. absurd (let x : Point ≡ Running k = e in cc);
  }

  -- ---- what it gives

  pub core_gives : (at : ℕ → ℕ) (s : MachineState) (k : ℕ) → k < length p.tasks → KnownCore p own runs at s →
      Keeps rule order passes p own runs scripts policy keep at s → MarksIn at s → GivesPromised works k (promises k) s
  core_gives at s k lt kn h marks =
      let pr : Promise = promises k in
      let sc : Script = scripts k in
      let g : Gives k pr s = gives p passes own runs at s k sc pr kn.position lt (keep k lt) (kept k lt) in
      let m : Marked works k pr runs s.now at s.core.mode s.core.interval s.core.mark s.log.intervals = marks k lt in
      let ends : (runs k).jobs ≤ (plain_run (runs k) sc.count).ended = omega (arith, (keep k lt).ends) in
      let most : (begun_at runs at k).calls ≤ (begun_by (runs k) sc.count).calls = calls_most (runs k) (at k) sc.count ends in
      record {
        outputs = g.outputs;
        intervals = record { count = omega (arith, m.logged, most, (keep k lt).calls_are, (kept k lt).count); each = m.each };
        begun = λ e pred.
            let inside : InInterval order p.plant (length p.tasks) runs scripts at (lines_in s.work.cache) k s.core.interval s.core.mark =
            h.resides.runs_in k e in
            let l : length (predictable_of k s.log.intervals) + one_predictable (phase_at runs at k) + ending (Running k) s.core.mark k ≡ (begun_at runs at k).calls =
            subst (λ mode. length (predictable_of k s.log.intervals) + one_predictable (phase_at runs at k) + ending mode s.core.mark k ≡ (begun_at runs at k).calls) e m.logged in
            let one : one_predictable (phase_at runs at k) + ending (Running k) s.core.mark k ≡ 1 =
            one_open s.core.mark (phase_at runs at k) (call_of sc (begun_at runs at k)).stated
            (begun_at runs at k).steps s.core.interval k inside.issued pred in
            let place : (begun_at runs at k).calls - 1 ≡ length (predictable_of k s.log.intervals) = omega (arith, l, one) in
            record {
              there = omega (arith, l, one, most, (keep k lt).calls_are, (kept k lt).count);
              before = m.before e pred ∙ ap (λ x. (mark_at pr.marks x).before) place;
            };
        all_outputs = g.all_outputs;
        all_intervals = λ f.
            let done : (s.core.mode ≡ Point) × ((runs k).jobs ≤ (plain_run (runs k) (at k)).ended) = finished_ended p own runs at s k kn.position f lt in
            let l : length (predictable_of k s.log.intervals) + one_predictable (phase_at runs at k) + 0 ≡ (begun_at runs at k).calls =
            (subst (λ mode. Marked works k pr runs s.now at mode s.core.interval s.core.mark s.log.intervals) done.0 m).logged in
            let none : one_predictable (phase_at runs at k) ≡ 0 = ap one_predictable (end_compatible (runs k) (at k) done.1) in
            let same : (begun_at runs at k).calls ≡ (begun_by (runs k) sc.count).calls = ap (λ b. b.calls) (same_begun (runs k) sc.count (at k) ends done.1) in
            omega (arith, l, none, same, (keep k lt).calls_are, (kept k lt).count);
        finals = g.finals;
      }
