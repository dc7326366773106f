-- A cycle, and any number of them, with one more input word of a task.
use Rattle.std.proofs.Common.{◌≡◌, ℕ, zero, suc, ◌+◌, refl, ap, ◌∙◌, sym, cond, ⊎_elim, Bool, true, false, List, [], ◌∷◌, Option, Some, None}
use Rattle.std.specs.Prelude.{length, ◌&&◌, ◌||◌, is_some, nat_lt, nat_le}
use Rattle.prem_cycle.proofs.Prelude.{is_paid, core_turn, Arrivals, arrivals_at, bus_at, with_memory, with_clash, move_at, core_at, joined, ends_before, close_interval, at_point, settle}
use Rattle.prem_cycle.proofs.Prelude.{with_now, next_cycle, ticked, cycle_with, is_finished, log_size, is_over, step_of, with_input, CycleStep, step_in, step_with, coming_step, cycles_of}
use Rattle.prem_cycle.proofs.Prelude.{steps_of, is_past_end, has_read_past_end, Setup, MachineState, Mode, Point, Switching, Running, Idle, Turned, Request, with_last, ReplacementRule}
use Rattle.prem_cycle.proofs.Prelude.{cases_Bool, list_any-append, list_any}
use Rattle.prem_cycle.proofs.RunLaws.{step_of-goes, step_of-stays}
use Rattle.prem_cycle.proofs.RunsLemmas.InputsLemmas.Turns.{turn_with, past_of, work_with, move_with, turn_same, past_same}
use Rattle.prem_cycle.proofs.RunsLemmas.InputsLemmas.Words.{outputs_with}

-- ---- what is over

pub over_with : (k word : ℕ) (s : MachineState) → is_over (with_input k word s) ≡ is_over s
over_with k word s =
    ap (λ n. is_finished s || is_some s.trapped || (nat_le log_size n || nat_le log_size (length s.log.intervals)))
    (outputs_with s.work.tasks k word)

-- ---- the end of a cycle

cond_with : (k word : ℕ) (b : Bool) (x y : MachineState) → cond b (with_input k word x) (with_input k word y) ≡ with_input k word (cond b x y)
cond_with k word true x y = refl
cond_with k word false x y = refl

settle_with : (k word : ℕ) (m : Mode) (s : MachineState) → settle m (with_input k word s) ≡ with_input k word (settle m s)
settle_with k word Point s = refl
settle_with k word (Switching j left) s = refl
settle_with k word (Running j) s =
    cond_with k word (is_paid s.core.debt && ends_before s.now s.core.interval s.core.mark) (close_interval j s) s
settle_with k word (Idle until) s = cond_with k word (nat_lt s.now until) s (record s { core = at_point s.core })

ticked_with : (k word : ℕ) (s : MachineState) → ticked (with_input k word s) ≡ with_input k word (ticked s)
ticked_with k word s =
    ap (cond (is_some s.trapped) (with_input k word s)) (settle_with k word s.core.mode (with_now s (s.now + 1)))
    ∙ cond_with k word (is_some s.trapped) s (next_cycle s)

-- ---- a cycle

moves_with : (p : Setup) (k word : ℕ) (b : Turned) (s : MachineState) → move_at p b (with_input k word s) ≡ move_at p b s
moves_with p k word b s = move_with p k word s.now b.turn.core s.sched (with_memory b.memory s.work) s.core

core_with : (rule : ReplacementRule) (p : Setup) (k word : ℕ) (b : Turned) (s : MachineState) → past_of k (step_with rule p b s) ≡ false →
    core_at rule p b (with_input k word s) ≡ turn_with k word (core_at rule p b s)
core_with rule p k word b s h =
    ap (λ m. core_turn rule p s.now m (work_with k word (with_memory b.memory s.work)) s.core (with_clash b.turn.clash s.log.counts))
    (moves_with p k word b s)
    ∙ turn_same rule p k word s.now (move_at p b s) (with_memory b.memory s.work) s.core (with_clash b.turn.clash s.log.counts) h

cycle_same : (rule : ReplacementRule) (p : Setup) (k word : ℕ) (a : Arrivals) (b : Turned) (s : MachineState) →
    past_of k (step_with rule p b s) ≡ false → cycle_with rule p a b (with_input k word s) ≡ with_input k word (cycle_with rule p a b s)
cycle_same rule p k word a b s h =
    ap (λ t. ticked (joined a b t s)) (core_with rule p k word b s h)
    ∙ ticked_with k word (joined a b (core_at rule p b s) s)

-- the step that a cycle takes, if the state isn't over
pub coming_goes : (rule : ReplacementRule) (p : Setup) (requests : List Request) (s : MachineState) → is_over s ≡ false →
    coming_step rule p requests s ≡ step_with rule p (bus_at (arrivals_at requests s).gates s) s
coming_goes rule p requests s h =
    ap (λ b. cond b None (step_with rule p (bus_at (arrivals_at requests s).gates s) s)) h

pub coming_stays : (rule : ReplacementRule) (p : Setup) (requests : List Request) (s : MachineState) → is_over s ≡ true → coming_step rule p requests s ≡ None
coming_stays rule p requests s h =
    ap (λ b. cond b None (step_with rule p (bus_at (arrivals_at requests s).gates s) s)) h

-- unless its instruction reads past the end of the task's list, a cycle leaves the word where it is
step_same : (rule : ReplacementRule) (p : Setup) (requests : List Request) (s : MachineState) (k word : ℕ) →
    past_of k (coming_step rule p requests s) ≡ false → step_of rule p requests (with_input k word s) ≡ with_input k word (step_of rule p requests s)
step_same rule p requests s k word h =
    ⊎_elim (λ (e : is_over s ≡ true).
    step_of-stays rule p requests (with_input k word s) (over_with k word s ∙ e)
    ∙ ap (with_input k word) (sym (step_of-stays rule p requests s e)))
    (λ (e : is_over s ≡ false).
    step_of-goes rule p requests (with_input k word s) (over_with k word s ∙ e)
    ∙ cycle_same rule p k word (arrivals_at requests s) (bus_at (arrivals_at requests s).gates s) s (sym (ap (past_of k) (coming_goes rule p requests s e)) ∙ h)
    ∙ ap (with_input k word) (sym (step_of-goes rule p requests s e)))
    (cases_Bool (is_over s))

-- and the same tasks read past the end in it
coming_same : (rule : ReplacementRule) (p : Setup) (requests : List Request) (s : MachineState) (k word j : ℕ) →
    past_of k (coming_step rule p requests s) ≡ false →
    past_of j (coming_step rule p requests (with_input k word s)) ≡ past_of j (coming_step rule p requests s)
coming_same rule p requests s k word j h =
    let b : Turned = bus_at (arrivals_at requests s).gates s in
    ⊎_elim (λ (e : is_over s ≡ true).
    ap (past_of j) (coming_stays rule p requests (with_input k word s) (over_with k word s ∙ e))
    ∙ sym (ap (past_of j) (coming_stays rule p requests s e)))
    (λ (e : is_over s ≡ false).
    ap (past_of j) (coming_goes rule p requests (with_input k word s) (over_with k word s ∙ e))
    ∙ ap (λ m. past_of j (step_in rule p s.now (work_with k word (with_memory b.memory s.work)) m)) (moves_with p k word b s)
    ∙ past_same rule p k word j s.now (move_at p b s) (with_memory b.memory s.work) (sym (ap (past_of k) (coming_goes rule p requests s e)) ∙ h)
    ∙ sym (ap (past_of j) (coming_goes rule p requests s e)))
    (cases_Bool (is_over s))

-- ---- any number of cycles

or_none : (b : Bool) → (b || false) ≡ b
or_none true = refl
or_none false = refl

any-with_last : (k : ℕ) (o : Option CycleStep) (steps : List CycleStep) → list_any (is_past_end k) (with_last o steps) ≡ (list_any (is_past_end k) steps || past_of k o)
any-with_last k None steps = sym (or_none (list_any (is_past_end k) steps))
any-with_last k (Some step) steps =
    list_any-append (is_past_end k) steps (step ∷ [])
    ∙ ap (λ b. list_any (is_past_end k) steps || b) (or_none (is_past_end k step))

-- a task has read past the end within one cycle more
pub has_read-next : (rule : ReplacementRule) (p : Setup) (requests : List Request) (n : ℕ) (s : MachineState) (k : ℕ) →
    has_read_past_end rule p requests (suc n) s k
    ≡ (has_read_past_end rule p requests n s k || past_of k (coming_step rule p requests (cycles_of rule p requests n s)))
unfolding steps_of
has_read-next rule p requests n s k =
    any-with_last k (coming_step rule p requests (cycles_of rule p requests n s)) (steps_of rule p requests n s)

pub or_first : (a b : Bool) → (a || b) ≡ false → a ≡ false
or_first true b h = absurd (let x : true ≡ false = h in cc)
or_first false b h = refl

pub or_second : (a b : Bool) → (a || b) ≡ false → b ≡ false
or_second true b h = absurd (let x : true ≡ false = h in cc)
or_second false b h = h

pub cycles_leave_the_word : (rule : ReplacementRule) (p : Setup) (requests : List Request) (n : ℕ) (s : MachineState) (k word : ℕ) →
    has_read_past_end rule p requests n s k ≡ false → cycles_of rule p requests n (with_input k word s) ≡ with_input k word (cycles_of rule p requests n s)
unfolding cycles_of
cycles_leave_the_word rule p requests zero s k word h = refl
cycles_leave_the_word rule p requests (suc n) s k word h =
    let u : MachineState = cycles_of rule p requests n s in
    let both : (has_read_past_end rule p requests n s k || past_of k (coming_step rule p requests u)) ≡ false =
    sym (has_read-next rule p requests n s k) ∙ h in
    ap (step_of rule p requests) (cycles_leave_the_word rule p requests n s k word (or_first _ _ both))
    ∙ step_same rule p requests u k word (or_second _ _ both)

pub has_read_same : (rule : ReplacementRule) (p : Setup) (requests : List Request) (n : ℕ) (s : MachineState) (k word j : ℕ) →
    has_read_past_end rule p requests n s k ≡ false → has_read_past_end rule p requests n (with_input k word s) j ≡ has_read_past_end rule p requests n s j
unfolding steps_of
has_read_same rule p requests zero s k word j h = refl
has_read_same rule p requests (suc n) s k word j h =
    let u : MachineState = cycles_of rule p requests n s in
    let both : (has_read_past_end rule p requests n s k || past_of k (coming_step rule p requests u)) ≡ false =
    sym (has_read-next rule p requests n s k) ∙ h in
    has_read-next rule p requests n (with_input k word s) j
    ∙ ap (λ b. b || past_of j (coming_step rule p requests (cycles_of rule p requests n (with_input k word s))))
    (has_read_same rule p requests n s k word j (or_first _ _ both))
    ∙ ap (λ v. has_read_past_end rule p requests n s j || past_of j (coming_step rule p requests v))
    (cycles_leave_the_word rule p requests n s k word (or_first _ _ both))
    ∙ ap (λ b. has_read_past_end rule p requests n s j || b) (coming_same rule p requests u k word j (or_second _ _ both))
    ∙ sym (has_read-next rule p requests n s j)
