-- Over a run each task stands where it stands on its own.
use Rattle.std.proofs.Common.{◌≡◌, ℕ, zero, suc, ◌+◌, refl, ap, ◌∙◌, sym, subst, arith, cond, eqb, None, Option, true, false, Bool, List, [], ◌∷◌, ◌++◌, ⊎_elim}
use Rattle.prem_cycle.proofs.Prelude.{CoreMove, Passes, Issues, Arrivals, arrivals_at, bus_at, with_memory, move_at, is_over, cycle_of, step_of, behind_touches, CycleStep, step_by, step_in}
use Rattle.prem_cycle.proofs.Prelude.{step_with, coming_step, memory_of, cycles_of, steps_of, count_of, issued_of, IsRunOf, AreOwn, IsRunnable, Setup, Work, MachineState, Turned, Request}
use Rattle.prem_cycle.proofs.Prelude.{TaskRun, with_last, ReplacementRule, IsRule, TaskJobs, cases_Bool, sum_by-append}
use Rattle.prem_cycle.proofs.CoreCases.{move_cases}
use Rattle.prem_cycle.proofs.CycleParts.{cycle_gates}
use Rattle.prem_cycle.proofs.RunsLemmas.PositionLemmas.Gated.{AreGates, arrivals_gates, Turns, bus_turns, written_keeps}
use Rattle.prem_cycle.proofs.RunsLemmas.PositionLemmas.Schedules.{Moves, moves}
use Rattle.prem_cycle.proofs.RunsLemmas.PositionLemmas.Stands.{bump, Stands, Issuing}
use Rattle.prem_cycle.proofs.RunsLemmas.PositionLemmas.Turns.{Runs, bump_move, issuing, Position, BusKeeps, bus_stands, cycle_position}

-- ---- how many instructions

count_more : (j : ℕ) (st : CycleStep) (xs : List CycleStep) → count_of j (xs ++ st ∷ []) ≡ bump st.task (λ i. count_of i xs) j
count_more j st xs = sum_by-append (λ (s : CycleStep). cond (eqb s.task j) 1 0) xs (st ∷ []) ∙ by (eqb st.task j) where
  by : (b : Bool) → count_of j xs + (0 + cond b 1 0) ≡ cond b (count_of j xs + 1) (count_of j xs)
  by true = omega arith
  by false = omega arith

-- it is the next one of a run on its own
pub record IsIssue (p : Setup) (k : ℕ) (w : Work) : Type 0 where
  pub own : ℕ → Bool
  pub run : TaskRun
  pub n : ℕ
  pub issue : Issuing p own run n k w

abbrev pub IsIssued : Setup → Work → CoreMove → Type 0
IsIssued p w (Passes c) = Unit {0}
IsIssued p w (Issues k i) = IsIssue p k w

pub count_move : (rule : ReplacementRule) (p : Setup) (now : ℕ) (w : Work) (m : CoreMove) (xs : List CycleStep) (j : ℕ) → IsIssued p w m →
    bump_move m (λ i. count_of i xs) j ≡ count_of j (with_last (step_in rule p now w m) xs)
count_move rule p now w (Passes c) xs j h = refl
count_move rule p now w (Issues k i) xs j h =
    sym (ap (λ a. count_of j (with_last (step_by rule p now k i w (behind_touches rule p k w a)) xs)) h.issue.does ∙ count_more j _ xs)

-- the move of a core issues such an instruction, or none
pub issued_move : (p : Setup) (own : ℕ → ℕ → Bool) (runs : ℕ → TaskRun) (at : ℕ → ℕ) (sched : List TaskJobs) (w : Work) (m : CoreMove) →
    Runs p own runs → Stands p own runs at w → Moves p runs at sched m → IsIssued p w m
issued_move p own runs at sched w (Passes c) rs s m = tt
issued_move p own runs at sched w (Issues k i) rs s m = record { own = own k; run = runs k; n = at k; issue = issuing p own runs at w k rs s m.unfinished }

-- ---- a cycle

pub record AllAt (p : Setup) (own : ℕ → ℕ → Bool) (runs : ℕ → TaskRun) (at : ℕ → ℕ) (s : MachineState) : Type 0 where
  pub position : Position p own runs at s
  pub gates : AreGates p s.gates

module _ (rule : ReplacementRule) (p : Setup) (content : List ℕ) (inputs : List (List ℕ)) (requests : List Request) (own : ℕ → ℕ → Bool)
    (runs : ℕ → TaskRun) (r : IsRule rule) (q : IsRunnable p content requests) (o : AreOwn p content inputs own runs) where
  pub runs_of : Runs p own runs
  runs_of = record {
    is = λ k lt. let x : IsRunOf p (memory_of p content) inputs (own k) k (runs k) = o.runs_are k lt in record { target = x.target; size = x.size; entry = x.entry; stack = x.stack; fits = x.fits };
    stay = o.stay;
    apart = o.apart;
  }

  -- what the bus writes in the coming cycle
  pub keeps_of : (at : ℕ → ℕ) (s : MachineState) → AllAt p own runs at s → BusKeeps p own s.work (bus_at (arrivals_at requests s).gates s).memory
  keeps_of at s h =
      let a : Arrivals = arrivals_at requests s in
      let t : Turns p s.work.memory (bus_at a.gates s) = bus_turns p s.now s.core.window _ a.gates s.work.memory (arrivals_gates p s.now requests _ q.asked h.gates) in
      written_keeps p own s.work (bus_at a.gates s).memory q.devices o.free h.position.stands.kept t.memory_is

  pub is_issued : (at : ℕ → ℕ) (sched : List TaskJobs) (w : Work) (m : CoreMove) → Stands p own runs at w → Moves p runs at sched m → IsIssued p w m
  is_issued at sched w m s j = issued_move p own runs at sched w m runs_of s j

  cycle_all : (s : MachineState) (xs : List CycleStep) → AllAt p own runs (λ k. count_of k xs) s →
      AllAt p own runs (λ k. count_of k (with_last (step_with rule p (bus_at (arrivals_at requests s).gates s) s) xs)) (cycle_of rule p requests s)
  cycle_all s xs h =
      let at : ℕ → ℕ = λ k. count_of k xs in
      let a : Arrivals = arrivals_at requests s in
      let b : Turned = bus_at a.gates s in
      let w : Work = with_memory b.memory s.work in
      let t : Turns p s.work.memory b = bus_turns p s.now s.core.window _ a.gates s.work.memory (arrivals_gates p s.now requests _ q.asked h.gates) in
      let k : BusKeeps p own s.work b.memory = written_keeps p own s.work b.memory q.devices o.free h.position.stands.kept t.memory_is in
      let m : Moves p runs at s.sched (move_at p b s) =
      moves p runs at s.sched s.now b.turn.core w s.core (move_at p b s) (move_cases p s.now b.turn.core s.sched w s.core) h.position.schedules in
      let i : IsIssued p w (move_at p b s) = is_issued at s.sched w (move_at p b s) (bus_stands p own runs at s.work b.memory k h.position.stands) m in
      record {
        position = subst (λ f. Position p own runs f (cycle_of rule p requests s)) (λ x j. count_move rule p s.now w (move_at p b s) xs j i x)
            (cycle_position rule p own runs at a b s r runs_of k h.position);
        gates = subst (AreGates p) (sym (cycle_gates rule p a b s)) t.gates;
      }

  step_all : (s : MachineState) (xs : List CycleStep) → AllAt p own runs (λ k. count_of k xs) s →
      AllAt p own runs (λ k. count_of k (with_last (coming_step rule p requests s) xs)) (step_of rule p requests s)
  step_all s xs h =
      let none : Option CycleStep = None in
      ⊎_elim (λ (e : is_over s ≡ true).
      subst (λ b. AllAt p own runs (λ k. count_of k (with_last (cond b none (step_with rule p (bus_at (arrivals_at requests s).gates s) s)) xs)) (cond b s (cycle_of rule p requests s))) (sym e) h)
      (λ (e : is_over s ≡ false).
      subst (λ b. AllAt p own runs (λ k. count_of k (with_last (cond b none (step_with rule p (bus_at (arrivals_at requests s).gates s) s)) xs))
      (cond b s (cycle_of rule p requests s))) (sym e) (cycle_all s xs h))
      (cases_Bool (is_over s))

  pub run_all : (n : ℕ) (s : MachineState) → AllAt p own runs (λ k. 0) s → AllAt p own runs (issued_of rule p requests n s) (cycles_of rule p requests n s)
  unfolding cycles_of steps_of
  run_all zero s h = h
  run_all (suc n) s h = step_all (cycles_of rule p requests n s) (steps_of rule p requests n s) (run_all n s h)
