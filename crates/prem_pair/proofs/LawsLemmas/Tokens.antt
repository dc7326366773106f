-- A core holds the token just where it needs the bus.
use Rattle.std.proofs.Common.{◌≡◌, ℕ, zero, ◌+◌, ◌∙◌, refl, ap, sym, subst, ltb, true, false, Bool, List, ◌⊎◌, inl, inr}
use Rattle.std.specs.Prelude.{◌&&◌, not, is_some}
use Rattle.prem_pair.proofs.Prelude.{MoveCase, pays_on_bus, is_denied, pays_cost, waits, switches, begins, chooses, chooses_now, begins_idle, has_finished, idles, Continues, turn_with}
use Rattle.prem_pair.proofs.Prelude.{is_paid, CoreMove, Passes, Issues, phase_in, CoreTurn, core_turn, Arrivals, with_memory, with_clash, joined, ends_before, at_point, close_interval}
use Rattle.prem_pair.proofs.Prelude.{settle, with_now, next_cycle, ticked, is_execution, Setup, Work, CoreState, Counts, MachineState, Mode, Point, Switching, Running, Idle, Turned, Change}
use Rattle.prem_pair.proofs.Prelude.{Stay, Memory, Execute, End, Job, is_run, asks_in, asks, holder_with, is_first, is_second, is_gates, is_execute, frees_in, frees, holder_after, Holder}
use Rattle.prem_pair.proofs.Prelude.{Nobody, First, Second, Gates, TaskJobs, may_miss, needs_in, IssuesSo, TurnNeeds, cond_both}
use Rattle.prem_cycle.proofs.CoreCases.{goes_on}
use Rattle.prem_isa.specs.declared.effect.Phase.{Phase}
use Rattle.prem_isa.specs.declared.effect.Phase.TheVariants.{Compatible, Memory as MemoryPhase, Execution}
use Rattle.prem_pair.proofs.LawsLemmas.Hosted.{Hosted}
use Rattle.prem_sound.proofs.ResidentLemmas.Residents.{opens}

abbrev pub core_needs : MachineState → Bool
core_needs s = needs_in (phase_in s.work) s.core.mark s.core.mode

-- behind a cycle a core holds the token where it has held it, unless it has freed it
abbrev pub StillHolds : Bool → MachineState → Type 0
StillHolds holds s = core_needs s ≡ (holds && not (frees s.core))

abbrev HasOrAsks : (ℕ → Phase) → ℕ → List TaskJobs → Change → Mode → Type 0
HasOrAsks phases now sched mark mode = (needs_in phases mark mode ≡ true) ⊎ (asks_in now sched mode ≡ true)

-- ---- a core that holds it

need_frees : (phases : ℕ → Phase) (now : ℕ) (sched : List TaskJobs) (mark : Change) (mode : Mode) → HasOrAsks phases now sched mark mode → needs_in phases mark mode ≡ not (frees_in mode mark)
need_frees phases now sched mark Point h = refl
need_frees phases now sched mark (Switching k left) h = refl
need_frees phases now sched mark (Idle until) (inl h) = absurd (let x : false ≡ true = h in cc)
need_frees phases now sched mark (Idle until) (inr h) = absurd (let x : false ≡ true = h in cc)
need_frees phases now sched mark (Running k) (inr h) = absurd (let x : false ≡ true = h in cc)
need_frees phases now sched Stay (Running k) (inl h) = h
need_frees phases now sched Memory (Running k) (inl h) = refl
need_frees phases now sched (Execute stated) (Running k) (inl h) = refl
need_frees phases now sched End (Running k) (inl h) = absurd (let x : false ≡ true = h in cc)
need_frees phases now sched Job (Running k) (inl h) = refl

not_executing : (ph : Phase) → not (is_execution ph) ≡ true → ph ≡ Execution → ⊥
not_executing ph h e = let x : false ≡ true = sym (ap (λ p. not (is_execution p)) e) ∙ h in cc

goes_outside : (ph : Phase) (mark : Change) → Continues mark → may_miss ph mark ≡ true → ph ≡ Execution → ⊥
goes_outside ph Stay g h e = not_executing ph h e
goes_outside ph (Execute stated) g h e = let x : false ≡ true = h in cc
goes_outside ph Memory g h e = absurd g
goes_outside ph End g h e = absurd g
goes_outside ph Job g h e = absurd g

abbrev HoldMove : (ℕ → Phase) → CoreMove → Type 0
HoldMove phases (Passes c) = needs_in phases c.mark c.mode ≡ not (frees c)
HoldMove phases (Issues k i) = phases k ≡ Execution → ⊥

hold_moves : (phases : ℕ → Phase) (p : Setup) (now : ℕ) (had : Bool) (sched : List TaskJobs) (w : Work) (c : CoreState) (m : CoreMove) →
    MoveCase p now had sched w c m → ((k : ℕ) → phases k ≡ Execution → c.mode ≡ Running k) → HasOrAsks phases now sched c.mark c.mode → HoldMove phases m
hold_moves phases p now had sched w c _ (pays_on_bus q h) runs x = need_frees phases now sched c.mark c.mode x
hold_moves phases p now had sched w c _ (is_denied q h) runs x = need_frees phases now sched c.mark c.mode x
hold_moves phases p now had sched w c _ (pays_cost k cost q e h) runs x = need_frees phases now sched c.mark c.mode x
hold_moves phases p now had sched w c _ (waits k q e h y) runs x = need_frees phases now sched c.mark c.mode x
hold_moves phases p now had sched w c _ (has_finished q e h) runs x = need_frees phases now sched c.mark c.mode x
hold_moves phases p now had sched w c _ (idles until q e) runs x = need_frees phases now sched c.mark c.mode x
hold_moves phases p now had sched w c _ (switches k left q e) runs x = refl
hold_moves phases p now had sched w c _ (chooses k left q e h z) runs x = refl
hold_moves phases p now had sched w c _ (begins k q e) runs x = λ y. let z : Switching k zero ≡ Running k = sym e ∙ runs k y in cc
hold_moves phases p now had sched w c _ (chooses_now k q e h z) runs x = λ y. let v : Point ≡ Running k = sym e ∙ runs k y in cc
hold_moves phases p now had sched w c _ (goes_on k q e h y) runs x = by (subst (HasOrAsks phases now sched c.mark) e x) where
  by : HasOrAsks phases now sched c.mark (Running k) → phases k ≡ Execution → ⊥
  by (inl n) f = goes_outside (phases k) c.mark y n f
  by (inr n) f = let z : false ≡ true = n in cc
hold_moves phases p now had sched w c _ (begins_idle until q e h) runs x = by (subst (HasOrAsks phases now sched c.mark) e x) where
  by : HasOrAsks phases now sched c.mark Point → false ≡ true
  by (inl n) = n
  by (inr n) = ap is_run (sym h) ∙ n

stays_outside : (ph next : Phase) → next ≡ ph → (ph ≡ Execution → ⊥) → not (is_execution next) ≡ true
stays_outside Compatible next e never = ap (λ x. not (is_execution x)) e
stays_outside MemoryPhase next e never = ap (λ x. not (is_execution x)) e
stays_outside Execution next e never = absurd (never refl)

issue_frees : (ph next : Phase) (c : Change) → IssuesSo ph next c → (ph ≡ Execution → ⊥) → may_miss next c ≡ not (is_execute c)
issue_frees ph next Stay so never = stays_outside ph next so.follows never
issue_frees ph next Memory so never = refl
issue_frees ph next (Execute stated) so never = refl
issue_frees ph next End so never = absurd (never so.lawful)
issue_frees ph next Job so never = refl

-- ---- a core that doesn't

executing : (ph : Phase) → not (is_execution ph) ≡ false → ph ≡ Execution
executing Compatible h = absurd (let x : true ≡ false = h in cc)
executing MemoryPhase h = absurd (let x : true ≡ false = h in cc)
executing Execution h = refl

goes_inside : (ph : Phase) (mark : Change) → Continues mark → (opens mark ≡ true → ph ≡ Execution) → may_miss ph mark ≡ false → ph ≡ Execution
goes_inside ph Stay g o h = executing ph h
goes_inside ph (Execute stated) g o h = o refl
goes_inside ph Memory g o h = absurd g
goes_inside ph End g o h = absurd g
goes_inside ph Job g o h = absurd g

abbrev pub LetMove : (ℕ → Phase) → CoreMove → Type 0
LetMove phases (Passes c) = needs_in phases c.mark c.mode ≡ false
LetMove phases (Issues k i) = phases k ≡ Execution

pub let_moves : (phases : ℕ → Phase) (p : Setup) (now : ℕ) (had : Bool) (sched : List TaskJobs) (w : Work) (c : CoreState) (m : CoreMove) →
    MoveCase p now had sched w c m → ((k : ℕ) → c.mode ≡ Running k → opens c.mark ≡ true → phases k ≡ Execution) →
    needs_in phases c.mark c.mode ≡ false → asks_in now sched c.mode ≡ false → LetMove phases m
let_moves phases p now had sched w c _ (pays_on_bus q h) o n x = n
let_moves phases p now had sched w c _ (is_denied q h) o n x = n
let_moves phases p now had sched w c _ (pays_cost k cost q e h) o n x = n
let_moves phases p now had sched w c _ (waits k q e h y) o n x = n
let_moves phases p now had sched w c _ (has_finished q e h) o n x = n
let_moves phases p now had sched w c _ (idles until q e) o n x = n
let_moves phases p now had sched w c _ (begins_idle until q e h) o n x = refl
let_moves phases p now had sched w c _ (goes_on k q e h y) o n x = goes_inside (phases k) c.mark y (o k e) (subst (λ m. needs_in phases c.mark m ≡ false) e n)
let_moves phases p now had sched w c _ (switches k left q e) o n x = absurd (let y : true ≡ false = subst (λ m. needs_in phases c.mark m ≡ false) e n in cc)
let_moves phases p now had sched w c _ (begins k q e) o n x = absurd (let y : true ≡ false = subst (λ m. needs_in phases c.mark m ≡ false) e n in cc)
let_moves phases p now had sched w c _ (chooses k left q e h z) o n x = absurd (let y : true ≡ false = ap is_run (sym h) ∙ subst (λ m. asks_in now sched m ≡ false) e x in cc)
let_moves phases p now had sched w c _ (chooses_now k q e h z) o n x = absurd (let y : true ≡ false = ap is_run (sym h) ∙ subst (λ m. asks_in now sched m ≡ false) e x in cc)

issue_lets : (ph next : Phase) (c : Change) → IssuesSo ph next c → ph ≡ Execution → may_miss next c ≡ false
issue_lets ph next Stay so e = ap (λ x. not (is_execution x)) (so.follows ∙ e)
issue_lets ph next (Execute stated) so e = refl
issue_lets ph next End so e = refl
issue_lets ph next Memory so e = absurd (let x : Compatible ≡ Execution = sym so.lawful ∙ e in cc)
issue_lets ph next Job so e = absurd (let x : Compatible ≡ Execution = sym so.lawful ∙ e in cc)

-- ---- behind the core's part of a cycle

module _ (g : Hosted) where
  abbrev IsTurned : CoreMove → (ℕ → Phase) → CoreTurn → Type 0
  IsTurned m phases t = TurnNeeds g.rule g.order g.passes g.setup g.own g.runs g.scripts g.policy g.keep g.are_runs m phases t

  hold_turn : (now : ℕ) (m : CoreMove) (w : Work) (c : CoreState) (n : Counts) → IsTurned m (phase_in w) (core_turn g.rule g.setup now m w c n) →
      HoldMove (phase_in w) m → needs_in (phase_in (core_turn g.rule g.setup now m w c n).work) (core_turn g.rule g.setup now m w c n).core.mark
      (core_turn g.rule g.setup now m w c n).core.mode ≡ not (frees (core_turn g.rule g.setup now m w c n).core)
  hold_turn now (Passes c') w c n t h = h
  hold_turn now (Issues k i) w c n t h =
      let u : CoreTurn = core_turn g.rule g.setup now (Issues k i) w c n in
      subst (λ m. needs_in (phase_in u.work) u.core.mark m ≡ not (frees_in m u.core.mark)) (sym (t.issued k i refl).0)
      (issue_frees (phase_in w k) (phase_in u.work k) u.core.mark (t.issued k i refl).1 h)

  let_turn : (now : ℕ) (m : CoreMove) (w : Work) (c : CoreState) (n : Counts) → IsTurned m (phase_in w) (core_turn g.rule g.setup now m w c n) →
      LetMove (phase_in w) m → needs_in (phase_in (core_turn g.rule g.setup now m w c n).work) (core_turn g.rule g.setup now m w c n).core.mark
      (core_turn g.rule g.setup now m w c n).core.mode ≡ false
  let_turn now (Passes c') w c n t h = h
  let_turn now (Issues k i) w c n t h =
      let u : CoreTurn = core_turn g.rule g.setup now (Issues k i) w c n in
      subst (λ m. needs_in (phase_in u.work) u.core.mark m ≡ false) (sym (t.issued k i refl).0)
      (issue_lets (phase_in w k) (phase_in u.work k) u.core.mark (t.issued k i refl).1 h)

  -- ---- behind the end of the cycle

  settle_still : (holds : Bool) (m : Mode) (s : MachineState) → s.core.mode ≡ m → StillHolds holds s → StillHolds holds (settle m s)
  settle_still holds Point s e h = h
  settle_still holds (Switching k left) s e h = h
  settle_still holds (Running k) s e h =
      cond_both (is_paid s.core.debt && ends_before s.now s.core.interval s.core.mark) (close_interval k s) s (StillHolds holds)
      (λ _. and_no holds) (λ _. h) where
        and_no : (b : Bool) → false ≡ (b && false)
        and_no true = refl
        and_no false = refl
  settle_still holds (Idle until) s e h =
      cond_both (ltb s.now until) s (record s { core = at_point s.core }) (StillHolds holds) (λ _. h) (λ _. and_no holds) where
        and_no : (b : Bool) → false ≡ (b && false)
        and_no true = refl
        and_no false = refl

  ticked_still : (holds : Bool) (s : MachineState) → StillHolds holds s → StillHolds holds (ticked s)
  ticked_still holds s h =
      cond_both (is_some s.trapped) s (next_cycle s) (StillHolds holds) (λ _. h) (λ _. settle_still holds s.core.mode (with_now s (s.now + 1)) refl h)

  -- a core that has the token or gets it
  pub held_still : (a : Arrivals) (b : Turned) (m : CoreMove) (s : MachineState) → IsTurned m (phase_in s.work) (turn_with g.rule g.setup b m s) →
      MoveCase g.setup s.now b.turn.core s.sched (with_memory b.memory s.work) s.core m →
      ((k : ℕ) → phase_in s.work k ≡ Execution → s.core.mode ≡ Running k) → (core_needs s ≡ true) ⊎ (asks s ≡ true) →
      StillHolds true (ticked (joined a b (turn_with g.rule g.setup b m s) s))
  held_still a b m s t x runs h =
      ticked_still true (joined a b (turn_with g.rule g.setup b m s) s)
      (hold_turn s.now m (with_memory b.memory s.work) s.core (with_clash b.turn.clash s.log.counts) t
      (hold_moves (phase_in s.work) g.setup s.now b.turn.core s.sched (with_memory b.memory s.work) s.core m x runs h))

  -- a core that neither has it nor gets it
  pub let_still : (a : Arrivals) (b : Turned) (m : CoreMove) (s : MachineState) → IsTurned m (phase_in s.work) (turn_with g.rule g.setup b m s) →
      LetMove (phase_in s.work) m → StillHolds false (ticked (joined a b (turn_with g.rule g.setup b m s) s))
  let_still a b m s t x =
      ticked_still false (joined a b (turn_with g.rule g.setup b m s) s)
      (let_turn s.now m (with_memory b.memory s.work) s.core (with_clash b.turn.clash s.log.counts) t x)

-- ---- who holds it

pub first_after : (h : Holder) (c d : CoreState) (x : Bool) → is_first (holder_after h c d x) ≡ (is_first h && not (frees c))
first_after Nobody c d x = refl
first_after First c d x = cond_both (frees c) Nobody First (λ o. is_first o ≡ not (frees c)) (λ e. ap not (sym e)) (λ e. ap not (sym e))
first_after Second c d x = cond_both (frees d) Nobody Second (λ o. is_first o ≡ false) (λ _. refl) (λ _. refl)
first_after Gates c d x = cond_both x Nobody Gates (λ o. is_first o ≡ false) (λ _. refl) (λ _. refl)

pub second_after : (h : Holder) (c d : CoreState) (x : Bool) → is_second (holder_after h c d x) ≡ (is_second h && not (frees d))
second_after Nobody c d x = refl
second_after First c d x = cond_both (frees c) Nobody First (λ o. is_second o ≡ false) (λ _. refl) (λ _. refl)
second_after Second c d x = cond_both (frees d) Nobody Second (λ o. is_second o ≡ not (frees d)) (λ e. ap not (sym e)) (λ e. ap not (sym e))
second_after Gates c d x = cond_both x Nobody Gates (λ o. is_second o ≡ false) (λ _. refl) (λ _. refl)

pub gates_after : (h : Holder) (c d : CoreState) (x : Bool) → is_gates (holder_after h c d x) ≡ (is_gates h && not x)
gates_after Nobody c d x = refl
gates_after First c d x = cond_both (frees c) Nobody First (λ o. is_gates o ≡ false) (λ _. refl) (λ _. refl)
gates_after Second c d x = cond_both (frees d) Nobody Second (λ o. is_gates o ≡ false) (λ _. refl) (λ _. refl)
gates_after Gates c d x = cond_both x Nobody Gates (λ o. is_gates o ≡ not x) (λ e. ap not (sym e)) (λ e. ap not (sym e))

-- the holder has had it, or has asked for it
pub first_had : (h : Holder) (a b c : Bool) → is_first (holder_with h a b c) ≡ true → (is_first h ≡ true) ⊎ (a ≡ true)
first_had First a b c e = inl refl
first_had Second a b c e = absurd (let x : false ≡ true = e in cc)
first_had Gates a b c e = absurd (let x : false ≡ true = e in cc)
first_had Nobody true b c e = inr refl
first_had Nobody false true c e = absurd (let x : false ≡ true = e in cc)
first_had Nobody false false true e = absurd (let x : false ≡ true = e in cc)
first_had Nobody false false false e = absurd (let x : false ≡ true = e in cc)

pub second_had : (h : Holder) (a b c : Bool) → is_second (holder_with h a b c) ≡ true → (is_second h ≡ true) ⊎ (b ≡ true)
second_had Second a b c e = inl refl
second_had First a b c e = absurd (let x : false ≡ true = e in cc)
second_had Gates a b c e = absurd (let x : false ≡ true = e in cc)
second_had Nobody true b c e = absurd (let x : false ≡ true = e in cc)
second_had Nobody false true c e = inr refl
second_had Nobody false false true e = absurd (let x : false ≡ true = e in cc)
second_had Nobody false false false e = absurd (let x : false ≡ true = e in cc)

-- and it keeps it
pub first_keeps : (h : Holder) (a b c : Bool) → is_first h ≡ true → is_first (holder_with h a b c) ≡ true
first_keeps First a b c e = refl
first_keeps Second a b c e = e
first_keeps Gates a b c e = e
first_keeps Nobody a b c e = absurd (let x : false ≡ true = e in cc)

pub second_keeps : (h : Holder) (a b c : Bool) → is_second h ≡ true → is_second (holder_with h a b c) ≡ true
second_keeps Second a b c e = refl
second_keeps First a b c e = e
second_keeps Gates a b c e = e
second_keeps Nobody a b c e = absurd (let x : false ≡ true = e in cc)

pub gates_keep : (h : Holder) (a b c : Bool) → is_gates h ≡ true → is_gates (holder_with h a b c) ≡ true
gates_keep Gates a b c e = refl
gates_keep First a b c e = e
gates_keep Second a b c e = e
gates_keep Nobody a b c e = absurd (let x : false ≡ true = e in cc)
