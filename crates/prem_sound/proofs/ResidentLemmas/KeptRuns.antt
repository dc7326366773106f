-- Every state of a run whose tasks keep to their scripts.
use Rattle.std.proofs.Common.{◌≡◌, ℕ, zero, suc, sym, subst, cond, None, Option, true, false, Bool, List, ⊎_elim}
use Rattle.prem_sound.proofs.Prelude.{move_cases, does, run_stands, AllAt, count_move, runs_of, keeps_of, Runs, arrivals_inside, run_holds, want_of, CoreMove, Arrivals, arrivals_at, bus_at}
use Rattle.prem_sound.proofs.Prelude.{with_memory, move_at, cycle_of, is_over, step_of, CycleStep, step_with, coming_step, cycles_of, steps_of, memory_of, run_of, count_of, issued_of}
use Rattle.prem_sound.proofs.Prelude.{AreOwn, IsRunnable, CarriesInside, WindowsHold, HaveCosts, Setup, MachineState, start_of, Turned, Request, IsPlaced, TaskRun, with_last}
use Rattle.prem_sound.proofs.Prelude.{ReplacementRule, OrderRule, IsPolicy, ScriptsMakeNoFault, Script, cases_Bool, All}
use Rattle.prem_sound.proofs.ResidentLemmas.Clashes.{turn_calm, turn_serves}
use Rattle.prem_sound.proofs.ResidentLemmas.Counted.{NoFaults}
use Rattle.prem_sound.proofs.ResidentLemmas.Facing.{KnownCore, Meets, Comes, comes, core_keeps, start_faultless}
use Rattle.prem_sound.proofs.ResidentLemmas.Keeps.{KeepScripts, Keeps}

-- the devices' transfers take some time
pub costs_of : (p : Setup) → All (IsPlaced p.plant.line p.plant.memory) p.devices → HaveCosts p.devices
costs_of p all k d lt = (all k d lt).device.cost.0

module _ (rule : ReplacementRule) (order : OrderRule) (passes : ℕ → ℕ) (p : Setup) (content : List ℕ) (inputs : List (List ℕ))
    (requests : List Request) (own : ℕ → ℕ → Bool) (runs : ℕ → TaskRun) (scripts : ℕ → Script) (policy : IsPolicy rule order passes)
    (keep : KeepScripts p passes runs scripts) (q : IsRunnable p content requests) (o : AreOwn p content inputs own runs) where
  abbrev pub KeepsAt : (ℕ → ℕ) → MachineState → Type 0
  KeepsAt at s = Keeps rule order passes p own runs scripts policy keep at s

  -- what is known of a state of the run
  pub record Known (at : ℕ → ℕ) (s : MachineState) : Type 0 where
    pub stand : AllAt p own runs at s
    pub windows : WindowsHold s

  -- what the bus does in the coming cycle, and the core
  abbrev pub bus_in : MachineState → Turned
  bus_in s = bus_at (arrivals_at requests s).gates s

  abbrev pub move_next : MachineState → CoreMove
  move_next s = move_at p (bus_in s) s

  abbrev pub own_runs : Runs p own runs
  own_runs = runs_of rule p content inputs requests own runs policy.keeps q o

  pub known_core : (at : ℕ → ℕ) (s : MachineState) → Known at s → KnownCore p own runs at s
  known_core at s k = record { position = k.stand.position; closes = k.windows.core }

  -- the core meets what it needs: where it wants the bus, the window is closed
  pub meets : (at : ℕ → ℕ) (s : MachineState) → Known at s → KeepsAt at s → Meets p own (bus_in s) (move_next s) s
  meets at s k h =
      let a : Arrivals = arrivals_at requests s in
      let inside : CarriesInside s.now s.core.window a.gates = arrivals_inside s.now s.core.window s.now requests _ k.windows.gates in
      record {
        leaves = keeps_of rule p content inputs requests own runs policy.keeps q o at s k.stand;
        calm = turn_calm s.now s.core.window (want_of s.core.debt) a.gates s.work.memory inside h.calm;
        serves = turn_serves s.now s.core.window (want_of s.core.debt) a.gates s.work.memory inside h.calm;
        may = does (move_next s) (move_cases p s.now (bus_in s).turn.core s.sched (with_memory (bus_in s).memory s.work) s.core);
      }

  -- the core's part of the coming cycle
  pub coming : (at : ℕ → ℕ) (s : MachineState) → Known at s → KeepsAt at s → Comes rule order passes p own runs scripts policy keep own_runs at (arrivals_at requests s) (bus_in s) (move_next s) s
  coming at s k h = comes rule order passes p own runs scripts policy keep own_runs at (arrivals_at requests s) (bus_in s) (move_next s) s (known_core at s k) h (meets at s k h)

  cycle_keeps : (s : MachineState) (xs : List CycleStep) → Known (λ k. count_of k xs) s → KeepsAt (λ k. count_of k xs) s →
      KeepsAt (λ k. count_of k (with_last (step_with rule p (bus_at (arrivals_at requests s).gates s) s) xs)) (cycle_of rule p requests s)
  cycle_keeps s xs k h =
      let at : ℕ → ℕ = λ j. count_of j xs in
      let c : Comes rule order passes p own runs scripts policy keep own_runs at (arrivals_at requests s) (bus_in s) (move_next s) s = coming at s k h in
      subst (λ f. KeepsAt f (cycle_of rule p requests s)) (λ x j. count_move rule p s.now (with_memory (bus_in s).memory s.work) (move_next s) xs j c.issued x)
      (core_keeps rule order passes p own runs scripts policy keep own_runs at (arrivals_at requests s) (bus_in s) (move_next s) s c)

  step_keeps : (s : MachineState) (xs : List CycleStep) → Known (λ k. count_of k xs) s → KeepsAt (λ k. count_of k xs) s →
      KeepsAt (λ k. count_of k (with_last (coming_step rule p requests s) xs)) (step_of rule p requests s)
  step_keeps s xs k h =
      let none : Option CycleStep = None in
      ⊎_elim (λ (e : is_over s ≡ true).
      subst (λ b. KeepsAt (λ k. count_of k (with_last (cond b none (step_with rule p (bus_at (arrivals_at requests s).gates s) s)) xs)) (cond b s (cycle_of rule p requests s))) (sym e) h)
      (λ (e : is_over s ≡ false).
      subst (λ b. KeepsAt (λ k. count_of k (with_last (cond b none (step_with rule p (bus_at (arrivals_at requests s).gates s) s)) xs))
      (cond b s (cycle_of rule p requests s))) (sym e) (cycle_keeps s xs k h))
      (cases_Bool (is_over s))

  abbrev pub start : MachineState
  start = start_of p inputs (memory_of p content)

  -- after n cycles
  pub known : (n : ℕ) → Known (issued_of rule p requests n start) (run_of rule p content inputs requests n)
  known n = record {
    stand = run_stands rule p content inputs requests own runs n policy.keeps q o;
    windows = run_holds rule p content inputs requests n (costs_of p q.devices);
  }

  pub run_keeps : (n : ℕ) → KeepsAt (issued_of rule p requests n start) (run_of rule p content inputs requests n)
  unfolding cycles_of steps_of
  run_keeps zero = start_faultless rule order passes p own runs scripts policy keep inputs (memory_of p content)
  run_keeps (suc n) = step_keeps (cycles_of rule p requests n start) (steps_of rule p requests n start) (known n) (run_keeps n)

-- no fault in any state
pub no_faults : ScriptsMakeNoFault
no_faults rule order passes p content inputs requests own runs scripts n policy q o keep =
    let k : NoFaults (run_of rule p content inputs requests n).log.counts = (run_keeps rule order passes p content inputs requests own runs scripts policy keep q o n).counts in
    record { exec_misses = k.exec_misses; memory_stores = k.memory_stores; clashes = k.clashes }
