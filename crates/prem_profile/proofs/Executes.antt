-- What a cycle tells of the instruction that it executes.
use Rattle.std.specs.Prelude.{is_some, not, ◌/◌, slice_set}
use Rattle.std.proofs.Common.{◌≡◌, ℕ, zero, suc, ◌+◌, ◌≤◌, Bool, true, false, cond, List, [], ◌∷◌, length, Option, Some, None, refl, ap, sym, ◌∙◌, subst, arith}
use Rattle.prem_sched.specs.declared.sched.TaskJobs.{TaskJobs}
use Rattle.prem_sched.specs.declared.sched.Choice.{Choice}
use Rattle.prem_sched.specs.declared.sched.Choice.TheVariants.{Run, Idle as Idles, Finished}
use Rattle.prem_sched.specs.Schedule.{choice}
use Rattle.prem_isa.specs.declared.effect.Phase.{Phase}
use Rattle.prem_isa.specs.declared.effect.Stored.{Stored}
use Rattle.prem_isa.specs.declared.effect.Access.{Access}
use Rattle.prem_isa.specs.declared.effect.Change.{Change}
use Rattle.prem_isa.specs.declared.effect.Change.TheVariants.{Stay, Memory, Execute, End, Job}
use Rattle.prem_lru.specs.Entries.{ReplacementRule}
use Rattle.prem_lru.specs.CacheState.{Touched, touch_of}
use Rattle.prem_gate.specs.declared.request.Request.{Request}
use Rattle.prem_gate.specs.Gates.{Turned, wants}
use Rattle.prem_cycle.specs.declared.state.Mode.{Mode}
use Rattle.prem_cycle.specs.declared.state.Mode.TheVariants.{Point, Switching, Running, Idle}
use Rattle.prem_cycle.specs.declared.state.Interval.{Interval}
use Rattle.prem_cycle.specs.declared.state.Trap.{Trap}
use Rattle.prem_cycle.specs.State.{Setup, Task, Work, CoreState, Counts, MachineState, record_of, task_in}
use Rattle.prem_cycle.specs.Issue.{Attempt, Traps, Executes, LineTouch, attempt_behind, issued_by, issued_with, one_if, task_after, with_store, with_touch, with_touches}
use Rattle.prem_cycle.specs.Core.{CoreMove, Passes, Issues, begin_switch, core_issue, core_pay, core_turn, move_chosen, move_in, move_of, move_running, want_of}
use Rattle.prem_cycle.specs.Cycle.{Arrivals, arrivals_at, at_point, bus_at, close_interval, core_at, cycle_of, cycle_with, is_over, joined, move_at, next_cycle, settle, step_of}
use Rattle.prem_cycle.specs.Cycle.{with_clash, with_memory, with_now}
use Rattle.prem_cycle.specs.Run.{CycleStep, coming_step, step_by, step_in, step_with}
use Rattle.prem_cycle.proofs.CycleParts.{cycle_goes, cycle_traps}
use Rattle.prem_cycle.proofs.RunLaws.{step_of-goes, step_of-stays}
use Rattle.prem_profile.specs.Spent.{backs_in, misses_in}
use Rattle.prem_profile.specs.Issuer.{chosen_task, issuer_in}

-- ---- the touches of an executed instruction, if there is one

abbrev pub touches_of : Option CycleStep → List LineTouch
touches_of None = []
touches_of (Some s) = s.touches

abbrev pub hits_in : List LineTouch → ℕ
hits_in [] = 0
hits_in (t ∷ touches) = one_if t.hit + hits_in touches

-- ---- counts

-- so many touches are counted
pub record Counted (touches : List LineTouch) (n n' : Counts) : Type 0 where
  pub hits : n'.hits ≡ n.hits + hits_in touches
  pub misses : n'.misses ≡ n.misses + misses_in touches
  pub backs : n'.writebacks ≡ n.writebacks + backs_in touches

none_counted : (n : Counts) → Counted [] n n
none_counted n = record { hits = omega arith; misses = omega arith; backs = omega arith }

touches_counted : (phase : Phase) (touches : List LineTouch) (n : Counts) → Counted touches n (with_touches phase touches n)
touches_counted phase [] n = none_counted n
touches_counted phase (t ∷ touches) n =
    let rest = touches_counted phase touches (with_touch phase t n) in
    record { hits = omega (arith, rest.hits); misses = omega (arith, rest.misses); backs = omega (arith, rest.backs) }

store_counted : (phase : Phase) (stored : Option Stored) (touches : List LineTouch) (n m : Counts) → Counted touches n m → Counted touches n (with_store phase stored m)
store_counted phase None touches n m h = h
store_counted phase (Some s) touches n m h = record { hits = h.hits; misses = h.misses; backs = h.backs }

-- ---- what the core's move executes

-- counts and trap behind a move, by the instruction that it executes, if there is one
record Turns (o : Option CycleStep) (n n' : Counts) (trapped : Option Trap) : Type 0 where
  counted : Counted (touches_of o) n n'
  goes : is_some o ≡ true → trapped ≡ None

issue_turns : (rule : ReplacementRule) (p : Setup) (now k : ℕ) (i : Interval) (a : Attempt) (w : Work) (c : CoreState) (n : Counts) →
    Turns (step_by rule p now k i w a) n (core_issue rule p now k i a w c n).counts (core_issue rule p now k i a w c n).trapped
issue_turns rule p now k i (Traps cause) w c n = record { counted = none_counted n; goes = λ h. absurd (cc) }
issue_turns rule p now k i (Executes instr e) w c n =
    let phase : Phase = (task_in w k).phase in
    let touches : List LineTouch = (issued_by rule p k e w).touches in
    record {
      counted = store_counted phase e.stored touches n (with_touches phase touches n) (touches_counted phase touches n);
      goes = λ h. refl;
    }

move_turns : (rule : ReplacementRule) (p : Setup) (now : ℕ) (m : CoreMove) (w : Work) (c : CoreState) (n : Counts) →
    Turns (step_in rule p now w m) n (core_turn rule p now m w c n).counts (core_turn rule p now m w c n).trapped
move_turns rule p now (Passes c') w c n = record { counted = none_counted n; goes = λ h. absurd (cc) }
move_turns rule p now (Issues k i) w c n = issue_turns rule p now k i (attempt_behind rule p k w) w c n

-- ---- an executed instruction touches a line, and is the next one of its task

-- it is the next one of the task that issues
pub record IsNext (issuer : Option ℕ) (w : Work) (s : CycleStep) : Type 0 where
  pub task : issuer ≡ Some s.task
  pub before : s.before ≡ task_in w s.task
  pub touches : 1 ≤ length s.touches
  pub few : length s.touches ≤ 2

abbrev pub IsNextIf : Option ℕ → Work → Option CycleStep → Type 0
IsNextIf issuer w None = Unit {0}
IsNextIf issuer w (Some s) = IsNext issuer w s

touched_some : (rule : ReplacementRule) (size : ℕ) (tasks : List Task) (stored : Option Stored) (line : ℕ) (fetched : Touched) (access : Option Access) →
    1 ≤ length (issued_with rule size tasks stored line fetched access).touches
touched_some rule size tasks stored line fetched None = omega arith
touched_some rule size tasks stored line fetched (Some a) = omega arith

touched_few : (rule : ReplacementRule) (size : ℕ) (tasks : List Task) (stored : Option Stored) (line : ℕ) (fetched : Touched) (access : Option Access) →
    length (issued_with rule size tasks stored line fetched access).touches ≤ 2
touched_few rule size tasks stored line fetched None = omega arith
touched_few rule size tasks stored line fetched (Some a) = omega arith

step_next : (rule : ReplacementRule) (p : Setup) (now k : ℕ) (i : Interval) (w : Work) (a : Attempt) (issuer : Option ℕ) → issuer ≡ Some k → IsNextIf issuer w (step_by rule p now k i w a)
step_next rule p now k i w (Traps cause) issuer is = tt
step_next rule p now k i w (Executes instr e) issuer is =
    let line : ℕ = (task_in w k).pc / p.plant.line in
    let tasks : List Task = slice_set w.tasks k (task_after (record_of p k) e (task_in w k)) in
    let fetched : Touched = touch_of rule w.cache line w.memory in
    record {
      task = is;
      before = refl;
      touches = touched_some rule p.plant.line tasks e.stored line fetched e.access;
      few = touched_few rule p.plant.line tasks e.stored line fetched e.access;
    }

-- a move of the core lets that task issue, or none
abbrev MovesBy : Option ℕ → CoreMove → Type 0
MovesBy issuer (Passes c) = Unit {0}
MovesBy issuer (Issues k i) = issuer ≡ Some k

switch_by : (now : ℕ) (w : Work) (c : CoreState) (k left : ℕ) (issuer : Option ℕ) → issuer ≡ Some k → MovesBy issuer (begin_switch now w c k left)
switch_by now w c k zero issuer is = is
switch_by now w c k (suc left) issuer is = tt

chosen_by : (switch now : ℕ) (w : Work) (c : CoreState) (x : Choice) → MovesBy (chosen_task x) (move_chosen switch now w c x)
chosen_by switch now w c (Run k) = switch_by now w c k switch (Some k) refl
chosen_by switch now w c (Idles until) = tt
chosen_by switch now w c Finished = tt

running_by : (c : CoreState) (k cost : ℕ) (mark : Change) → MovesBy (Some k) (move_running c k cost mark)
running_by c k (suc cost) mark = tt
running_by c k zero Stay = refl
running_by c k zero (Execute stated) = refl
running_by c k zero Memory = tt
running_by c k zero End = tt
running_by c k zero Job = tt

mode_by : (p : Setup) (now : ℕ) (sched : List TaskJobs) (w : Work) (c : CoreState) (mode : Mode) → MovesBy (issuer_in now sched mode) (move_in p now sched w c mode)
mode_by p now sched w c Point = chosen_by p.plant.switch now w c (choice now sched)
mode_by p now sched w c (Switching k left) = switch_by now w c k left (Some k) refl
mode_by p now sched w c (Running k) = running_by c k c.debt.cost c.mark
mode_by p now sched w c (Idle until) = tt

either_by : (b : Bool) (issuer : Option ℕ) (c : CoreState) (m : CoreMove) → MovesBy issuer m → MovesBy issuer (cond b (Passes c) m)
either_by true issuer c m h = tt
either_by false issuer c m h = h

moves_by : (p : Setup) (now : ℕ) (had : Bool) (sched : List TaskJobs) (w : Work) (c : CoreState) → MovesBy (issuer_in now sched c.mode) (move_of p now had sched w c)
moves_by p now had sched w c = either_by (wants (want_of c.debt)) (issuer_in now sched c.mode) (core_pay had c) (move_in p now sched w c c.mode) (mode_by p now sched w c c.mode)

move_next : (rule : ReplacementRule) (p : Setup) (now : ℕ) (w : Work) (m : CoreMove) (issuer : Option ℕ) → MovesBy issuer m → IsNextIf issuer w (step_in rule p now w m)
move_next rule p now w (Passes c) issuer h = tt
move_next rule p now w (Issues k i) issuer h = step_next rule p now k i w (attempt_behind rule p k w) issuer h

memory_next : (issuer : Option ℕ) (memory : List ℕ) (w : Work) (o : Option CycleStep) → IsNextIf issuer (with_memory memory w) o → IsNextIf issuer w o
memory_next issuer memory w None h = tt
memory_next issuer memory w (Some s) h = record { task = h.task; before = h.before; touches = h.touches; few = h.few }

-- ---- the end of a cycle changes no counts of touches

record SameCounts (a b : Counts) : Type 0 where
  hits : b.hits ≡ a.hits
  misses : b.misses ≡ a.misses
  backs : b.writebacks ≡ a.writebacks

same_counts : (n : Counts) → SameCounts n n
same_counts n = record { hits = refl; misses = refl; backs = refl }

either_counts : (b : Bool) (x y : MachineState) (n : Counts) → SameCounts n x.log.counts → SameCounts n y.log.counts → SameCounts n (cond b x y).log.counts
either_counts true x y n h k = h
either_counts false x y n h k = k

settle_counts : (m : Mode) (s : MachineState) → SameCounts s.log.counts (settle m s).log.counts
settle_counts Point s = same_counts s.log.counts
settle_counts (Switching k left) s = same_counts s.log.counts
settle_counts (Running k) s = either_counts _ (close_interval k s) s s.log.counts (record { hits = refl; misses = refl; backs = refl }) (same_counts s.log.counts)
settle_counts (Idle until) s = either_counts _ s (record s { core = at_point s.core }) s.log.counts (same_counts s.log.counts) (record { hits = refl; misses = refl; backs = refl })

ticked_counts : (o : Bool) (s : MachineState) → SameCounts s.log.counts (cond o s (next_cycle s)).log.counts
ticked_counts true s = same_counts s.log.counts
ticked_counts false s = settle_counts s.core.mode (with_now s (s.now + 1))

counted_then : (touches : List LineTouch) (n m m' : Counts) → Counted touches n m → SameCounts m m' → Counted touches n m'
counted_then touches n m m' h k = record { hits = k.hits ∙ h.hits; misses = k.misses ∙ h.misses; backs = k.backs ∙ h.backs }

clash_counted : (touches : List LineTouch) (clash : Bool) (n n' : Counts) → Counted touches (with_clash clash n) n' → Counted touches n n'
clash_counted touches clash n n' h = record { hits = h.hits; misses = h.misses; backs = h.backs }

-- ---- a step of the run

-- what a step from a state tells: counts, time, and the next instruction
pub record IsTold (s t : MachineState) (o : Option CycleStep) : Type 0 where
  pub counted : Counted (touches_of o) s.log.counts t.log.counts
  pub next : IsNextIf (issuer_in s.now s.sched s.core.mode) s.work o
  pub from : s.now ≤ t.now
  pub within : t.now ≤ s.now + 1
  pub went : is_some o ≡ true → t.now ≡ s.now + 1

now_by : (rule : ReplacementRule) (p : Setup) (a : Arrivals) (b : Turned) (s : MachineState) (trapped : Option Trap) → (core_at rule p b s).trapped ≡ trapped →
    (s.now ≤ (cycle_with rule p a b s).now) × ((cycle_with rule p a b s).now ≤ s.now + 1)
now_by rule p a b s None e = let is = cycle_goes rule p a b s e in (omega (arith, is), omega (arith, is))
now_by rule p a b s (Some t) e = let is = cycle_traps rule p a b s (ap is_some e) in (omega (arith, is), omega (arith, is))

cycle_told : (rule : ReplacementRule) (p : Setup) (requests : List Request) (s : MachineState) →
    let a : Arrivals = arrivals_at requests s in
    IsTold s (cycle_of rule p requests s) (step_with rule p (bus_at a.gates s) s)
cycle_told rule p requests s =
    let a : Arrivals = arrivals_at requests s in
    let b : Turned = bus_at a.gates s in
    let m : CoreMove = move_at p b s in
    let w : Work = with_memory b.memory s.work in
    let n : Counts = with_clash b.turn.clash s.log.counts in
    let turns = move_turns rule p s.now m w s.core n in
    let issuer : Option ℕ = issuer_in s.now s.sched s.core.mode in
    let time = now_by rule p a b s (core_at rule p b s).trapped refl in
    record {
      counted = clash_counted (touches_of (step_with rule p b s)) b.turn.clash s.log.counts (cycle_with rule p a b s).log.counts
          (counted_then (touches_of (step_with rule p b s)) n (core_at rule p b s).counts (cycle_with rule p a b s).log.counts turns.counted
          (ticked_counts (is_some (core_at rule p b s).trapped) (joined a b (core_at rule p b s) s)));
      next = memory_next issuer b.memory s.work (step_with rule p b s) (move_next rule p s.now w m issuer (moves_by p s.now b.turn.core s.sched w s.core));
      from = time.0;
      within = time.1;
      went = λ some. cycle_goes rule p a b s (turns.goes some);
    }

stays_told : (s : MachineState) → IsTold s s None
stays_told s = record { counted = none_counted s.log.counts; next = tt; from = omega arith; within = omega arith; went = λ h. absurd (cc) }

told_by : (rule : ReplacementRule) (p : Setup) (requests : List Request) (s : MachineState) (over : Bool) → is_over s ≡ over →
    IsTold s (step_of rule p requests s) (coming_step rule p requests s)
told_by rule p requests s true e =
    let o : coming_step rule p requests s ≡ None = ap (λ b. cond b None (step_with rule p (bus_at (arrivals_at requests s).gates s) s)) e in
    subst (λ t. IsTold s t (coming_step rule p requests s)) (sym (step_of-stays rule p requests s e)) (subst (IsTold s s) (sym o) (stays_told s))
told_by rule p requests s false e =
    let c : Option CycleStep = step_with rule p (bus_at (arrivals_at requests s).gates s) s in
    let o : coming_step rule p requests s ≡ c = ap (λ b. cond b None c) e in
    subst (λ t. IsTold s t (coming_step rule p requests s)) (sym (step_of-goes rule p requests s e)) (subst (IsTold s (cycle_of rule p requests s)) (sym o) (cycle_told rule p requests s))

pub step_told : (rule : ReplacementRule) (p : Setup) (requests : List Request) (s : MachineState) → IsTold s (step_of rule p requests s) (coming_step rule p requests s)
step_told rule p requests s = told_by rule p requests s (is_over s) refl

-- ---- whether an instruction was executed, by the counts

one_each : (b : Bool) → one_if b + one_if (not b) ≡ 1
one_each true = refl
one_each false = refl

pub both_counted : (touches : List LineTouch) → hits_in touches + misses_in touches ≡ length touches
both_counted [] = refl
both_counted (t ∷ touches) = omega (arith, one_each t.hit, both_counted touches)
