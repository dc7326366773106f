-- The bus changes nothing before a `pm.in` issues.
use Rattle.std.proofs.Common.{◌≡◌, ℕ, zero, suc, refl, ap, ◌∙◌, sym, cond, Some, None, Option, true, false, Bool, List, length, ⊎_elim}
use Rattle.std.specs.Prelude.{◌&&◌, nat_le}
use Rattle.prem_cycle.proofs.Prelude.{want_of, core_pay, CoreMove, Passes, Issues, phase_in, move_chosen, move_in, move_of, arrivals_at, bus_at, with_memory, move_at, is_over, Attempt}
use Rattle.prem_cycle.proofs.Prelude.{Traps, Executes, attempt_of, behind_touches, is_execution, CycleStep, step_by, step_in, step_with, wants_word, Setup, Work, CoreState, task_in}
use Rattle.prem_cycle.proofs.Prelude.{Interval, Mode, Point, Switching, Running, Idle, Turned, wants, Phase, Compatible, ReplacementRule, choice, Choice, Run, Finished, TaskJobs, cases_Bool}
use Rattle.prem_cycle.proofs.RunsLemmas.WindowLemmas.Cycles.{quiet_outside}
use Rattle.prem_cycle.proofs.RunsLemmas.WindowLemmas.Moves.{attempt_lawful}
use Rattle.prem_cycle.specs.Runs.Window.Wants.{lacks_word, wants_in, WantsAreSeen}
use Rattle.prem_sched.specs.declared.sched.Choice.TheVariants.{Idle as Rest}

-- ---- by the step

by_attempt : (rule : ReplacementRule) (p : Setup) (now k : ℕ) (i : Interval) (w : Work) (a : Attempt) →
    wants_word (step_by rule p now k i w (behind_touches rule p k w a)) ≡ cond (lacks_word (task_in w k) a) (Some k) None
by_attempt rule p now k i w (Traps cause) = refl
by_attempt rule p now k i w (Executes instr e) = refl

by_step : (rule : ReplacementRule) (p : Setup) (now : ℕ) (w : Work) (m : CoreMove) → wants_word (step_in rule p now w m) ≡ wants_in p w m
by_step rule p now w (Passes c) = refl
by_step rule p now w (Issues k i) = by_attempt rule p now k i w (attempt_of p k w)

-- ---- memory

no_input : (phase : Phase) (input left : Bool) → (input ≡ true → phase ≡ Compatible) → is_execution phase ≡ true → (input && left) ≡ false
no_input phase true left lawful in_execution =
    let x : false ≡ true = sym (ap is_execution (lawful refl)) ∙ in_execution in absurd cc
no_input phase false left lawful in_execution = refl

-- no `pm.in` issues in an execution phase, whatever memory holds
none_by : (p : Setup) (k : ℕ) (w : Work) (a : Attempt) → attempt_of p k w ≡ a → is_execution (phase_in w k) ≡ true → lacks_word (task_in w k) a ≡ false
none_by p k w (Traps cause) is in_execution = refl
none_by p k w (Executes instr e) is in_execution =
    no_input (phase_in w k) e.input (nat_le (length (task_in w k).left) 0) (attempt_lawful p k w instr e is).input in_execution

same_memory : (p : Setup) (w : Work) (memory : List ℕ) (m : CoreMove) →
    ((k : ℕ) (i : Interval) → m ≡ Issues k i → is_execution (phase_in w k) ≡ false → memory ≡ w.memory) → wants_in p (with_memory memory w) m ≡ wants_in p w m
same_memory p w memory (Passes c) h = refl
same_memory p w memory (Issues k i) h =
    ⊎_elim (λ (yes : is_execution (phase_in w k) ≡ true).
    ap (λ b. cond b (Some k) None) (none_by p k (with_memory memory w) (attempt_of p k (with_memory memory w)) refl yes ∙ sym (none_by p k w (attempt_of p k w) refl yes)))
    (λ (no : is_execution (phase_in w k) ≡ false). ap (λ x. wants_in p (with_memory x w) (Issues k i)) (h k i refl no))
    (cases_Bool (is_execution (phase_in w k)))

-- ---- the move

same_chosen : (switch now : ℕ) (w : Work) (memory : List ℕ) (c : CoreState) (ch : Choice) → move_chosen switch now (with_memory memory w) c ch ≡ move_chosen switch now w c ch
same_chosen zero now w memory c (Run k) = refl
same_chosen (suc left) now w memory c (Run k) = refl
same_chosen switch now w memory c (Rest until) = refl
same_chosen switch now w memory c Finished = refl

same_in : (p : Setup) (now : ℕ) (sched : List TaskJobs) (w : Work) (memory : List ℕ) (c : CoreState) (mode : Mode) → move_in p now sched (with_memory memory w) c mode ≡ move_in p now sched w c mode
same_in p now sched w memory c Point = same_chosen p.plant.switch now w memory c (choice now sched)
same_in p now sched w memory c (Switching k zero) = refl
same_in p now sched w memory c (Switching k (suc left)) = refl
same_in p now sched w memory c (Running k) = refl
same_in p now sched w memory c (Idle until) = refl

-- a core that wants the bus issues nothing, whether it has it or not
same_paid : (p : Setup) (w : Work) (b : Bool) (c d : CoreState) (m n : CoreMove) → m ≡ n → wants_in p w (cond b (Passes c) m) ≡ wants_in p w (cond b (Passes d) n)
same_paid p w true c d m n e = refl
same_paid p w false c d m n e = ap (wants_in p w) e

same_move : (p : Setup) (now : ℕ) (had : Bool) (sched : List TaskJobs) (w : Work) (memory : List ℕ) (c : CoreState) →
    wants_in p w (move_of p now had sched (with_memory memory w) c) ≡ wants_in p w (move_of p now false sched w c)
same_move p now had sched w memory c =
    same_paid p w (wants (want_of c.debt)) (core_pay had c) (core_pay false c) _ _ (same_in p now sched w memory c c.mode)

-- ---- the cycle

over_or : (b : Bool) (step : Option CycleStep) (o : Option ℕ) → wants_word step ≡ o → wants_word (cond b None step) ≡ cond b None o
over_or true step o e = refl
over_or false step o e = e

pub wants_seen : WantsAreSeen
wants_seen rule p requests s h =
    let b : Turned = bus_at (arrivals_at requests s).gates s in
    over_or (is_over s) (step_with rule p b s) (wants_in p s.work (move_of p s.now false s.sched s.work s.core))
    (by_step rule p s.now (with_memory b.memory s.work) (move_at p b s)
    ∙ same_memory p s.work b.memory (move_at p b s) (λ k i e out. (quiet_outside p requests s k i h e out).same)
    ∙ same_move p s.now b.turn.core s.sched s.work b.memory s.core)
