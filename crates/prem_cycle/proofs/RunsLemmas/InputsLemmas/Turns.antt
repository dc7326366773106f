-- The core's part of a cycle, with one more input word of a task.
use Rattle.std.proofs.Common.{◌≡◌, ℕ, zero, suc, ◌/◌, refl, ap, ap₂, ◌∙◌, sym, cond, Bool, true, false, List, [], ◌∷◌, ◌++◌, Option, Some, None, eq-eqb}
use Rattle.std.specs.Prelude.{◌==◌, ◌&&◌, slice_set}
use Rattle.prem_cycle.proofs.Prelude.{is_empty, want_of, core_pay, CoreMove, Passes, Issues, phase_in, new_interval, begin_switch, move_chosen, move_in, move_of, core_issued, CoreTurn}
use Rattle.prem_cycle.proofs.Prelude.{core_issue, core_turn, with_word, Attempt, Traps, Executes, attempt_in, attempt_of, view_touched, attempt_seen, behind_touches, attempt_behind}
use Rattle.prem_cycle.proofs.Prelude.{task_after, Issued, issued_with, issued_by, owed_by, with_store, with_touches, CycleStep, step_by, step_in, is_past_end, Setup, record_of, Task, Work}
use Rattle.prem_cycle.proofs.Prelude.{CoreState, Counts, task_in, Interval, Mode, Point, Switching, Running, Idle, wants, cost_of, Access, Cause, Effect, Phase, Stored, Instr, Touched}
use Rattle.prem_cycle.proofs.Prelude.{touch_of, view_of, ReplacementRule, Target, choice, Choice, Run, Finished, TaskJobs}
use Rattle.prem_cycle.proofs.RunsLemmas.InputsLemmas.Words.{tasks_with, task_with, set_with, takes_past, attempt_with, seen_with, after_with}
use Rattle.prem_sched.specs.declared.sched.Choice.TheVariants.{Idle as Rest}

abbrev pub work_with : ℕ → ℕ → Work → Work
work_with k word w = record w { tasks = tasks_with k word w.tasks }

abbrev pub turn_with : ℕ → ℕ → CoreTurn → CoreTurn
turn_with k word t = record t { work = work_with k word t.work }

-- whether what is executed, if anything is, reads past the end
abbrev pub past_of : ℕ → Option CycleStep → Bool
past_of k None = false
past_of k (Some step) = is_past_end k step

-- ---- what the core does

phase_with : (k word j : ℕ) (w : Work) → phase_in (work_with k word w) j ≡ phase_in w j
phase_with k word j w =
    task_with (λ t. t.phase ≡ (task_in w j).phase) w.tasks k j word refl (λ e. refl)

pc_with : (k word j : ℕ) (w : Work) → (task_in (work_with k word w) j).pc ≡ (task_in w j).pc
pc_with k word j w = task_with (λ t. t.pc ≡ (task_in w j).pc) w.tasks k j word refl (λ e. refl)

switch_with : (k word now j switch : ℕ) (w : Work) (c : CoreState) → begin_switch now (work_with k word w) c j switch ≡ begin_switch now w c j switch
switch_with k word now j zero w c = ap (λ phase. Issues j (new_interval now phase)) (phase_with k word j w)
switch_with k word now j (suc left) w c = refl

chosen_with : (k word switch now : ℕ) (w : Work) (c : CoreState) (ch : Choice) → move_chosen switch now (work_with k word w) c ch ≡ move_chosen switch now w c ch
chosen_with k word switch now w c (Run j) = switch_with k word now j switch w c
chosen_with k word switch now w c (Rest until) = refl
chosen_with k word switch now w c Finished = refl

mode_with : (p : Setup) (k word now : ℕ) (sched : List TaskJobs) (w : Work) (c : CoreState) (m : Mode) → move_in p now sched (work_with k word w) c m ≡ move_in p now sched w c m
mode_with p k word now sched w c Point = chosen_with k word p.plant.switch now w c (choice now sched)
mode_with p k word now sched w c (Switching j left) = switch_with k word now j left w c
mode_with p k word now sched w c (Running j) = refl
mode_with p k word now sched w c (Idle until) = refl

-- it doesn't depend on input words
pub move_with : (p : Setup) (k word now : ℕ) (had : Bool) (sched : List TaskJobs) (w : Work) (c : CoreState) → move_of p now had sched (work_with k word w) c ≡ move_of p now had sched w c
move_with p k word now had sched w c =
    ap (λ m. cond (wants (want_of c.debt)) (Passes (core_pay had c)) m) (mode_with p k word now sched w c c.mode)

-- ---- an instruction that finds its input word

and_rest : (a b c : Bool) → (a && b && c) ≡ false → a ≡ true → (b && c) ≡ false
and_rest true b c h e = h
and_rest false b c h e = absurd (let x : false ≡ true = e in cc)

-- where the step of a task is not past the end, its attempt is not
finds : (rule : ReplacementRule) (p : Setup) (k now j : ℕ) (i : Interval) (w : Work) (a : Attempt) → past_of k (step_by rule p now j i w a) ≡ false → j ≡ k → takes_past (task_in w j).left a ≡ false
finds rule p k now j i w (Traps cause) h e = refl
finds rule p k now j i w (Executes instr f) h e =
    and_rest (j == k) f.input (is_empty (task_in w j).left) h (eq-eqb j k e)

-- nor was it before its touches
past_before : (rule : ReplacementRule) (p : Setup) (k : ℕ) (w : Work) (left : List ℕ) (a : Attempt) → takes_past left (behind_touches rule p k w a) ≡ takes_past left a
past_before rule p k w left (Traps cause) = refl
past_before rule p k w left (Executes i e) = refl

-- where memory reads as before the touches and behind them
attempts_seen : (target : Target) (size : ℕ) (view : ℕ → ℕ) (seen : ℕ → Option Access → ℕ → ℕ) (w : Work) (k word j : ℕ) →
    (j ≡ k → takes_past (task_in w j).left (attempt_in target size view (task_in w j)) ≡ false) →
    attempt_seen target size (seen (task_in (work_with k word w) j).pc) (task_in (work_with k word w) j) (attempt_in target size view (task_in (work_with k word w) j))
    ≡ attempt_seen target size (seen (task_in w j).pc) (task_in w j) (attempt_in target size view (task_in w j))
attempts_seen target size view seen w k word j h =
    let t : Task = task_in w j in
    task_with (λ u. attempt_seen target size (seen u.pc) u (attempt_in target size view u) ≡ attempt_seen target size (seen t.pc) t (attempt_in target size view t)) w.tasks k j word refl
    (λ e.
    ap (attempt_seen target size (seen t.pc) (with_word word t)) (attempt_with target size view t word (h e))
    ∙ seen_with target size view (seen t.pc) t word (h e))

attempts_with : (rule : ReplacementRule) (p : Setup) (k word now j : ℕ) (i : Interval) (w : Work) →
    past_of k (step_by rule p now j i w (attempt_behind rule p j w)) ≡ false → attempt_behind rule p j (work_with k word w) ≡ attempt_behind rule p j w
attempts_with rule p k word now j i w h =
    attempts_seen p.plant.target p.plant.memory (view_of w.cache w.memory) (view_touched rule p.plant.line w.cache w.memory) w k word j
    (λ e. sym (past_before rule p j w (task_in w j).left (attempt_of p j w)) ∙ finds rule p k now j i w (attempt_behind rule p j w) h e)

-- ---- it is issued

abbrev issue_with : ℕ → ℕ → Issued → Issued
issue_with k word i = record i { work = work_with k word i.work }

lines_with : (rule : ReplacementRule) (k word size : ℕ) (tasks : List Task) (stored : Option Stored) (line : ℕ) (t : Touched)
    (access : Option Access) → issued_with rule size (tasks_with k word tasks) stored line t access
    ≡ issue_with k word (issued_with rule size tasks stored line t access)
lines_with rule k word size tasks stored line t None = refl
lines_with rule k word size tasks stored line t (Some a) = refl

issued_same : (rule : ReplacementRule) (p : Setup) (k word j : ℕ) (e : Effect) (w : Work) →
    (j ≡ k → (e.input && is_empty (task_in w j).left) ≡ false) → issued_by rule p j e (work_with k word w) ≡ issue_with k word (issued_by rule p j e w)
issued_same rule p k word j e w h =
    let size : ℕ = p.plant.line in
    let line : ℕ = (task_in w j).pc / size in
    let moved : Task → Task = task_after (record_of p j) e in
    ap (λ pc. issued_with rule size (slice_set (tasks_with k word w.tasks) j (moved (task_in (work_with k word w) j))) e.stored (pc / size) (touch_of rule w.cache (pc / size) w.memory) e.access)
    (pc_with k word j w)
    ∙ ap (λ tasks. issued_with rule size tasks e.stored line (touch_of rule w.cache line w.memory) e.access)
    (set_with moved w.tasks k j word (λ q. after_with (record_of p j) e (task_in w j) word (h q)))
    ∙ lines_with rule k word size (slice_set w.tasks j (moved (task_in w j))) e.stored line (touch_of rule w.cache line w.memory) e.access

abbrev trap_turn : Work → CoreState → Counts → (j : ℕ) → Cause → (pc : ℕ) → CoreTurn
trap_turn w c n j cause pc =
    record { work = w; core = c; counts = n; trapped = Some (record { task = j; pc = pc; cause = cause }) }

abbrev done_turn : Setup → (now j : ℕ) → Interval → Instr → Effect → CoreState → Counts → Issued → Phase → CoreTurn
done_turn p now j i instr e c n issued phase =
    record {
      work = issued.work;
      core = core_issued now j i e.change (cost_of instr) (owed_by p.plant issued.touches) c;
      counts = with_store phase e.stored (with_touches phase issued.touches n);
      trapped = None;
    }

issue_same : (rule : ReplacementRule) (p : Setup) (k word now j : ℕ) (i : Interval) (a : Attempt) (w : Work) (c : CoreState) (n : Counts) →
    (j ≡ k → takes_past (task_in w j).left a ≡ false) →
    core_issue rule p now j i a (work_with k word w) c n ≡ turn_with k word (core_issue rule p now j i a w c n)
issue_same rule p k word now j i (Traps cause) w c n h =
    ap (trap_turn (work_with k word w) c n j cause) (pc_with k word j w)
issue_same rule p k word now j i (Executes instr e) w c n h =
    ap₂ (done_turn p now j i instr e c n) (issued_same rule p k word j e w h) (phase_with k word j w)

-- the core's part gives the same, with the word behind the task's others
pub turn_same : (rule : ReplacementRule) (p : Setup) (k word now : ℕ) (m : CoreMove) (w : Work) (c : CoreState) (n : Counts) →
    past_of k (step_in rule p now w m) ≡ false → core_turn rule p now m (work_with k word w) c n ≡ turn_with k word (core_turn rule p now m w c n)
turn_same rule p k word now (Passes c') w c n h = refl
turn_same rule p k word now (Issues j i) w c n h =
    ap (λ a. core_issue rule p now j i a (work_with k word w) c n) (attempts_with rule p k word now j i w h)
    ∙ issue_same rule p k word now j i (attempt_behind rule p j w) w c n (finds rule p k now j i w (attempt_behind rule p j w) h)

-- ---- which steps read past the end

empty_with : (a b : Bool) (left : List ℕ) (word : ℕ) → (b && is_empty left) ≡ false → (a && b && is_empty (left ++ word ∷ [])) ≡ (a && b && is_empty left)
empty_with false b left word h = refl
empty_with true false left word h = refl
empty_with true true [] word h = absurd (let x : true ≡ false = h in cc)
empty_with true true (x ∷ left) word h = refl

step_past : (rule : ReplacementRule) (p : Setup) (k word l now j : ℕ) (i : Interval) (w : Work) (a : Attempt) →
    (j ≡ k → takes_past (task_in w j).left a ≡ false) → past_of l (step_by rule p now j i (work_with k word w) a) ≡ past_of l (step_by rule p now j i w a)
step_past rule p k word l now j i w (Traps cause) h = refl
step_past rule p k word l now j i w (Executes instr e) h =
    task_with (λ t. ((j == l) && e.input && is_empty t.left) ≡ ((j == l) && e.input && is_empty (task_in w j).left)) w.tasks k j word refl
    (λ q. empty_with (j == l) e.input (task_in w j).left word (h q))

-- the same ones, for every task
pub past_same : (rule : ReplacementRule) (p : Setup) (k word l now : ℕ) (m : CoreMove) (w : Work) → past_of k (step_in rule p now w m) ≡ false →
    past_of l (step_in rule p now (work_with k word w) m) ≡ past_of l (step_in rule p now w m)
past_same rule p k word l now (Passes c) w h = refl
past_same rule p k word l now (Issues j i) w h =
    ap (λ a. past_of l (step_by rule p now j i (work_with k word w) a)) (attempts_with rule p k word now j i w h)
    ∙ step_past rule p k word l now j i w (attempt_behind rule p j w) (finds rule p k now j i w (attempt_behind rule p j w) h)
