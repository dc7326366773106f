-- What is due for the instructions of a run on its own, and what grows along it.
use Rattle.std.proofs.Common.{◌≡◌, ℕ, zero, suc, ◌+◌, ◌-◌, ◌*◌, ◌≤◌, ap, ◌∙◌, refl, sym, subst, arith, Some, None, Option, List, [], ◌∷◌, length}
use Rattle.prem_cycle.proofs.Prelude.{data_accesses, due_of, did_cost, plain_steps-next, plain_trace-add, fetch, cost_of, greatest_cost, TaskRun, PlainState, with_last, after_change}
use Rattle.prem_cycle.proofs.Prelude.{after_outcome, moved_by, is_running, outcome_of, plain_start, plain_step, plain_steps, plain_run, Did, plain_did, plain_trace, Access, Change, Stay}
use Rattle.prem_cycle.proofs.Prelude.{Memory, Execute, End, Job, Outcome, Trap, Done, Plant, cond_both, length-append, sum_by-append, mul-le, sum_by}

-- ---- what is due

abbrev pub dues_of : Plant → TaskRun → ℕ → ℕ
dues_of plant run n = sum_by (due_of plant) (plain_trace run n (plain_start run))

trace_next : (run : TaskRun) (n : ℕ) → plain_trace run (n + 1) (plain_start run) ≡ with_last (plain_did run (plain_run run n)) (plain_trace run n (plain_start run))
unfolding plain_trace
trace_next run n = let e : n + 1 ≡ suc n = omega arith in ap (λ k. plain_trace run k (plain_start run)) e

pub dues_next : (plant : Plant) (run : TaskRun) (n : ℕ) (d : Did) → plain_did run (plain_run run n) ≡ Some d → dues_of plant run (n + 1) ≡ dues_of plant run n + due_of plant d
dues_next plant run n d e =
    ap (sum_by (due_of plant)) (trace_next run n ∙ ap (λ o. with_last o (plain_trace run n (plain_start run))) e)
    ∙ sum_by-append (due_of plant) (plain_trace run n (plain_start run)) (d ∷ []) ∙ omega arith

pub dues_grow : (plant : Plant) (run : TaskRun) (m n : ℕ) → m ≤ n → dues_of plant run m ≤ dues_of plant run n
dues_grow plant run m n le =
    let e : n ≡ m + (n - m) = omega arith in
    let split : dues_of plant run n ≡ dues_of plant run m + sum_by (due_of plant) (plain_trace run (n - m) (plain_steps run m (plain_start run))) =
    ap (dues_of plant run) e ∙ ap (sum_by (due_of plant)) (plain_trace-add run m (n - m) (plain_start run))
    ∙ sum_by-append (due_of plant) (plain_trace run m (plain_start run)) (plain_trace run (n - m) (plain_steps run m (plain_start run))) in
    omega arith

-- each instruction takes at most the greatest cost of the target and two accesses
one_access : (o : Option Access) → data_accesses o ≤ 1
one_access None = omega arith
one_access (Some a) = omega arith

due_at_most : (plant : Plant) (most : ℕ) (d : Did) → cost_of d.instr ≤ most → due_of plant d ≤ most + 2 * (plant.fill + plant.back)
due_at_most plant most d h =
    let m : (1 + data_accesses d.access) * (plant.fill + plant.back) ≤ 2 * (plant.fill + plant.back) =
    mul-le (1 + data_accesses d.access) (plant.fill + plant.back) 2 (plant.fill + plant.back) (omega (arith, one_access d.access)) (omega arith) in
    omega arith

due_more : (plant : Plant) (most : ℕ) (o : Option Did) (xs : List Did) → ((d : Did) → o ≡ Some d → cost_of d.instr ≤ most) →
    sum_by (due_of plant) (with_last o xs) ≤ sum_by (due_of plant) xs + (most + 2 * (plant.fill + plant.back))
due_more plant most None xs h = omega arith
due_more plant most (Some d) xs h = omega (arith, sum_by-append (due_of plant) xs (d ∷ []), due_at_most plant most d (h d refl))

next_most : (n x d m : ℕ) → d ≤ n * x → m ≤ d + x → m ≤ suc n * x
next_most n x d m h k = let e : suc n * x ≡ n * x + x = omega arith in omega arith

pub dues_at_most : (plant : Plant) (run : TaskRun) (n : ℕ) → dues_of plant run n ≤ n * (greatest_cost run.target + 2 * (plant.fill + plant.back))
unfolding plain_trace
dues_at_most plant run zero = omega arith
dues_at_most plant run (suc n) =
    next_most n (greatest_cost run.target + 2 * (plant.fill + plant.back)) (dues_of plant run n) _ (dues_at_most plant run n)
    (due_more plant (greatest_cost run.target) (plain_did run (plain_run run n)) (plain_trace run n (plain_start run)) (did_cost run (plain_run run n)))

-- ---- what grows

pub record Grows (s s' : PlainState) : Type 0 where
  pub ended : s.ended ≤ s'.ended
  pub outputs : length s.task.outputs ≤ length s'.task.outputs

grows_same : (s : PlainState) → Grows s s
grows_same s = record { ended = omega arith; outputs = omega arith }

grows_both : (a b c : PlainState) → Grows a b → Grows b c → Grows a c
grows_both a b c p q = record { ended = omega (arith, p.ended, q.ended); outputs = omega (arith, p.outputs, q.outputs) }

longer : (o : Option ℕ) (xs : List ℕ) → length xs ≤ length (with_last o xs)
longer None xs = omega arith
longer (Some x) xs = omega (arith, length-append xs (x ∷ []))

grows_change : (run : TaskRun) (c : Change) (s : PlainState) → Grows s (after_change run c s)
grows_change run Stay s = grows_same s
grows_change run Memory s = grows_same s
grows_change run (Execute stated) s = grows_same s
grows_change run End s = grows_same s
grows_change run Job s = record { ended = omega arith; outputs = omega arith }

grows_outcome : (run : TaskRun) (o : Outcome) (s : PlainState) → Grows s (after_outcome run o s)
grows_outcome run (Trap cause) s = record { ended = omega arith; outputs = omega arith }
grows_outcome run (Done e) s =
    grows_both s (moved_by e s) (after_change run e.change (moved_by e s))
    (record { ended = omega arith; outputs = longer e.output s.task.outputs }) (grows_change run e.change (moved_by e s))

grows_step : (run : TaskRun) (s : PlainState) → Grows s (plain_step run s)
grows_step run s =
    cond_both (is_running run s) (after_outcome run (outcome_of run s (fetch run.size s.task.view s.pc)) s) s (Grows s)
    (λ _. grows_outcome run (outcome_of run s (fetch run.size s.task.view s.pc)) s) (λ _. grows_same s)

grows_more : (run : TaskRun) (m d : ℕ) → Grows (plain_run run m) (plain_run run (m + d))
grows_more run m zero = let e : m ≡ m + 0 = omega arith in subst (λ n. Grows (plain_run run m) (plain_run run n)) e (grows_same (plain_run run m))
grows_more run m (suc d) =
    let e : m + d + 1 ≡ m + suc d = omega arith in
    subst (λ n. Grows (plain_run run m) (plain_run run n)) e
    (subst (Grows (plain_run run m)) (sym (plain_steps-next run (m + d) (plain_start run)))
    (grows_both (plain_run run m) (plain_run run (m + d)) (plain_step run (plain_run run (m + d))) (grows_more run m d) (grows_step run (plain_run run (m + d)))))

pub grows : (run : TaskRun) (m n : ℕ) → m ≤ n → Grows (plain_run run m) (plain_run run n)
grows run m n le =
    let e : m + (n - m) ≡ n = omega arith in
    subst (λ k. Grows (plain_run run m) (plain_run run k)) e (grows_more run m (n - m))
