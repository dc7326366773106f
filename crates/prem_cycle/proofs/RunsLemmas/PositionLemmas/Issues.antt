-- Each instruction that issues is the next one of its task's run on its own.
use Rattle.std.proofs.Common.{◌≡◌, ℕ, refl, ap, ◌∙◌, sym, subst, cond, Some, None, Option, true, false, Bool, List}
use Rattle.prem_cycle.proofs.Prelude.{plain_of, CoreMove, Passes, Issues, arrivals_at, bus_at, with_memory, move_at, is_over, Traps, Executes, attempt_by, attempt_fetched, attempt_in}
use Rattle.prem_cycle.proofs.Prelude.{issued_by, CycleStep, step_by, step_in, step_with, coming_step, memory_of, run_of, issued_of, AreOwn, IsRunnable, IssuedAsAlone, InstructionsAreAlone}
use Rattle.prem_cycle.proofs.Prelude.{Setup, Task, Work, MachineState, start_of, task_in, Turned, Request, act, fetch, TaskRun, PlainState, next_input, is_running, Did, did_of, did_with}
use Rattle.prem_cycle.proofs.Prelude.{did_fetched, plain_did, plain_run, Cause, Effect, Outcome, Trap, Done, Phase, Instr, ReplacementRule, IsRule, TaskJobs, Result, Ok, Err, slice_index}
use Rattle.prem_cycle.proofs.CoreCases.{move_cases}
use Rattle.prem_cycle.proofs.RunsLemmas.PositionLemmas.Positions.{run_stands}
use Rattle.prem_cycle.proofs.RunsLemmas.PositionLemmas.Runs.{AllAt, runs_of, keeps_of}
use Rattle.prem_cycle.proofs.RunsLemmas.PositionLemmas.Schedules.{Unfinished, Moves, moves}
use Rattle.prem_cycle.proofs.RunsLemmas.PositionLemmas.Stands.{Stands, IsAt, Issuing}
use Rattle.prem_cycle.proofs.RunsLemmas.PositionLemmas.Turns.{issuing, running_is, bus_stands}

-- ---- what the run on its own executes

did_by : (pc : ℕ) (phase : Phase) (i j : Instr) (e : Effect) (o : Outcome) → attempt_by j o ≡ Executes i e → did_with pc phase j o ≡ Some (did_of pc phase i e)
did_by pc phase i j e (Trap cause) h = absurd (let x : Traps cause ≡ Executes i e = h in cc)
did_by pc phase i j e (Done f) h = let x : Executes j f ≡ Executes i e = h in cc

did_at : (run : TaskRun) (t : Task) (view : ℕ → ℕ) (ended : ℕ) (i : Instr) (e : Effect) (f : Result Instr Cause) →
    attempt_fetched run.target run.size view t f ≡ Executes i e → did_fetched run (plain_of t view ended) f ≡ Some (did_of t.pc t.phase i e)
did_at run t view ended i e (Err cause) h = absurd (let x : Traps cause ≡ Executes i e = h in cc)
did_at run t view ended i e (Ok j) h =
    did_by t.pc t.phase i j e (act run.target run.size view (slice_index t.registers) t.pc t.phase (next_input t.left) j) h

did_alone : (run : TaskRun) (t : Task) (view : ℕ → ℕ) (ended : ℕ) (i : Instr) (e : Effect) → is_running run (plain_of t view ended) ≡ true →
    attempt_in run.target run.size view t ≡ Executes i e → plain_did run (plain_of t view ended) ≡ Some (did_of t.pc t.phase i e)
did_alone run t view ended i e goes h =
    let none : Option Did = None in
    ap (λ b. cond b (did_fetched run (plain_of t view ended) (fetch run.size view t.pc)) none) goes ∙ did_at run t view ended i e (fetch run.size view t.pc) h

-- the instruction that a task issues
pub issuing_did : (p : Setup) (own : ℕ → Bool) (runs : ℕ → TaskRun) (at : ℕ → ℕ) (k : ℕ) (w : Work) → Unfinished p runs at k →
    IsAt (runs k) (at k) (task_in w k) → (i : Issuing p own (runs k) (at k) k w) →
    plain_did (runs k) (plain_run (runs k) (at k)) ≡ Some (did_of (task_in w k).pc (task_in w k).phase i.instr i.effect)
issuing_did p own runs at k w u h i =
    let t : Task = task_in w k in
    let s : PlainState = plain_run (runs k) (at k) in
    ap (plain_did (runs k)) (sym h.same)
    ∙ did_alone (runs k) t s.task.view s.ended i.instr i.effect (ap (is_running (runs k)) h.same ∙ running_is p own runs at k t h u) i.alone

-- ---- the coming instruction

module _ (rule : ReplacementRule) (p : Setup) (content : List ℕ) (inputs : List (List ℕ)) (requests : List Request) (own : ℕ → ℕ → Bool)
    (runs : ℕ → TaskRun) (r : IsRule rule) (q : IsRunnable p content requests) (o : AreOwn p content inputs own runs) where
  step_alone : (at : ℕ → ℕ) (now : ℕ) (sched : List TaskJobs) (w : Work) (m : CoreMove) (st : CycleStep) → Stands p own runs at w →
      Moves p runs at sched m → step_in rule p now w m ≡ Some st → IssuedAsAlone p runs at w st
  step_alone at now sched w (Passes c) st s m e = absurd (let x : None ≡ Some st = e in cc)
  step_alone at now sched w (Issues k i) st s m e =
      let u : Unfinished p runs at k = m.unfinished in
      let x : Issuing p (own k) (runs k) (at k) k w = issuing p own runs at w k (runs_of rule p content inputs requests own runs r q o) s u in
      let made : CycleStep = record {
        at = now;
        task = k;
        interval = i;
        before = task_in w k;
        instr = x.instr;
        effect = x.effect;
        touches = (issued_by rule p k x.effect w).touches;
      } in
      let is : Some made ≡ Some st = sym (ap (step_by rule p now k i w) (x.behind rule r)) ∙ e in
      let same : made ≡ st = cc in
      subst (IssuedAsAlone p runs at w) same (record {
        there = u.bound;
        before = refl;
        did = issuing_did p (own k) runs at k w u (s.each k u.bound) x;
      })

  coming_alone : (at : ℕ → ℕ) (s : MachineState) (st : CycleStep) → AllAt p own runs at s → step_with rule p (bus_at (arrivals_at requests s).gates s) s ≡ Some st → IssuedAsAlone p runs at s.work st
  coming_alone at s st h e =
      let b : Turned = bus_at (arrivals_at requests s).gates s in
      let w : Work = with_memory b.memory s.work in
      let m : Moves p runs at s.sched (move_at p b s) =
      moves p runs at s.sched s.now b.turn.core w s.core (move_at p b s) (move_cases p s.now b.turn.core s.sched w s.core) h.position.schedules in
      let x : IssuedAsAlone p runs at w st =
      step_alone at s.now s.sched w (move_at p b s) st
      (bus_stands p own runs at s.work b.memory (keeps_of rule p content inputs requests own runs r q o at s h) h.position.stands) m e in
      record { there = x.there; before = x.before; did = x.did }

  over_none : (s : MachineState) (st : CycleStep) (b : Bool) (o : Option CycleStep) → cond b None o ≡ Some st → o ≡ Some st
  over_none s st true o e = absurd (let x : None ≡ Some st = e in cc)
  over_none s st false o e = e

  pub issues_alone : (n : ℕ) (st : CycleStep) → coming_step rule p requests (run_of rule p content inputs requests n) ≡ Some st →
      IssuedAsAlone p runs (issued_of rule p requests n (start_of p inputs (memory_of p content))) (run_of rule p content inputs requests n).work st
  issues_alone n st e =
      let s : MachineState = run_of rule p content inputs requests n in
      coming_alone (issued_of rule p requests n (start_of p inputs (memory_of p content))) s st
      (run_stands rule p content inputs requests own runs n r q o)
      (over_none s st (is_over s) (step_with rule p (bus_at (arrivals_at requests s).gates s) s) e)

pub instructions_are_alone : InstructionsAreAlone
instructions_are_alone rule p content inputs requests own runs n st r q o e = issues_alone rule p content inputs requests own runs r q o n st e
