-- A task takes its input words in order.
use Rattle.std.proofs.Common.{◌≡◌, ℕ, zero, suc, ◌+◌, ◌-◌, ◌/◌, ◌<◌, ◌≤◌, refl, ap, ◌∙◌, sym, subst, arith, ⊎_elim, Bool, true, false, Option, Some, None, List, [], ◌∷◌, drop, length}
use Rattle.std.proofs.Common.{length-drop, drop-drop}
use Rattle.prem_cycle.proofs.Prelude.{CoreMove, Passes, Issues, attempted, moved, arrivals_at, bus_at, with_memory, move_at, is_over, step_of, has_room_for_word, inputs_size, Attempt, Traps}
use Rattle.prem_cycle.proofs.Prelude.{Executes, attempt_behind, task_moved, task_changed, task_after, issued_with, cycles_of, memory_of, run_of, Setup, MachineState, record_of, no_record}
use Rattle.prem_cycle.proofs.Prelude.{first_task, first_tasks, start_of, Task, Work, task_in, Turned, Request, TaskRecord, left_after, used_after, Access, Change, Stay, Memory, Execute, End}
use Rattle.prem_cycle.proofs.Prelude.{Job, Effect, Stored, Touched, touch_of, ReplacementRule, cases_Bool, nat_lt, slice_index_or, slice_set}
use Rattle.prem_cycle.proofs.CycleParts.{cycle_work}
use Rattle.prem_cycle.proofs.RunLaws.{step_of-goes, step_of-stays}
use Rattle.prem_cycle.proofs.RunsLemmas.InputsLemmas.Words.{no_task}
use Rattle.prem_cycle.specs.Runs.Inputs.Taken.{TakesFrom}

-- ---- one effect

-- what is taken, and what is left, of some words
pub record Split (words left : List ℕ) (used : ℕ) : Type 0 where
  pub within : used ≤ length words
  pub rest : left ≡ drop used words

pub taken_after : (words : List ℕ) (b : Bool) (left : List ℕ) (used : ℕ) → Split words left used → Split words (left_after b left) (used_after b left used)
taken_after words false left used h = h
taken_after words true [] used h = h
taken_after words true (x ∷ left) used h =
    let count : suc (length left) ≡ length words - used = ap length h.rest ∙ length-drop used words in
    record { within = omega arith; rest = ap (drop 1) h.rest ∙ drop-drop 1 used words }

pub changed_from : (words : List ℕ) (r : TaskRecord) (c : Change) (t : Task) → TakesFrom words t → TakesFrom words (task_changed r c t)
changed_from words r Stay t h = h
changed_from words r Memory t h = h
changed_from words r (Execute stated) t h = h
changed_from words r End t h = h
changed_from words r Job t h = record { used = h.used; left = h.left }

pub after_from : (words : List ℕ) (r : TaskRecord) (e : Effect) (t : Task) → TakesFrom words t → TakesFrom words (task_after r e t)
after_from words r e t h =
    let s : Split words (left_after e.input t.left) (used_after e.input t.left t.used) =
    taken_after words e.input t.left t.used (record { within = h.used; rest = h.left }) in
    changed_from words r e.change (task_moved e t) (record { used = s.within; left = s.rest })

-- ---- a cycle

pub set_holds : (P : Task → Type 0) (tasks : List Task) (j k : ℕ) (t : Task) → P (slice_index_or tasks k no_task) → (k ≡ j → P t) → P (slice_index_or (slice_set tasks j t) k no_task)
set_holds P [] j k t h at = h
set_holds P (u ∷ tasks) zero zero t h at = at refl
set_holds P (u ∷ tasks) zero (suc k) t h at = h
set_holds P (u ∷ tasks) (suc j) zero t h at = h
set_holds P (u ∷ tasks) (suc j) (suc k) t h at = set_holds P tasks j k t h (λ e. at (ap suc e))

pub issued_tasks : (rule : ReplacementRule) (size : ℕ) (tasks : List Task) (stored : Option Stored) (line : ℕ) (t : Touched)
    (access : Option Access) → (issued_with rule size tasks stored line t access).work.tasks ≡ tasks
issued_tasks rule size tasks stored line t None = refl
issued_tasks rule size tasks stored line t (Some a) = refl

pub attempted_from : (rule : ReplacementRule) (p : Setup) (words : List ℕ) (k j : ℕ) (a : Attempt) (w : Work) → TakesFrom words (task_in w k) → TakesFrom words (task_in (attempted rule p j a w) k)
attempted_from rule p words k j (Traps cause) w h = h
attempted_from rule p words k j (Executes instr e) w h =
    let line : ℕ = (task_in w j).pc / p.plant.line in
    let t : Task = task_after (record_of p j) e (task_in w j) in
    subst (λ tasks. TakesFrom words (slice_index_or tasks k no_task))
    (sym (issued_tasks rule p.plant.line (slice_set w.tasks j t) e.stored line (touch_of rule w.cache line w.memory) e.access))
    (set_holds (TakesFrom words) w.tasks j k t h
    (λ q. after_from words (record_of p j) e (task_in w j) (subst (λ i. TakesFrom words (task_in w i)) q h)))

pub moved_from : (rule : ReplacementRule) (p : Setup) (words : List ℕ) (k : ℕ) (m : CoreMove) (w : Work) → TakesFrom words (task_in w k) → TakesFrom words (task_in (moved rule p m w) k)
moved_from rule p words k (Passes c) w h = h
moved_from rule p words k (Issues j i) w h = attempted_from rule p words k j (attempt_behind rule p j w) w h

pub step_from : (rule : ReplacementRule) (p : Setup) (requests : List Request) (words : List ℕ) (k : ℕ) (s : MachineState) →
    TakesFrom words (task_in s.work k) → TakesFrom words (task_in (step_of rule p requests s).work k)
step_from rule p requests words k s h =
    let b : Turned = bus_at (arrivals_at requests s).gates s in
    ⊎_elim (λ (e : is_over s ≡ true).
    subst (λ (u : MachineState). TakesFrom words (task_in u.work k)) (sym (step_of-stays rule p requests s e)) h)
    (λ (e : is_over s ≡ false).
    subst (λ (w : Work). TakesFrom words (task_in w k))
    (sym (ap (λ (u : MachineState). u.work) (step_of-goes rule p requests s e) ∙ cycle_work rule p (arrivals_at requests s) b s))
    (moved_from rule p words k (move_at p b s) (with_memory b.memory s.work) h))
    (cases_Bool (is_over s))

cycles_from : (rule : ReplacementRule) (p : Setup) (requests : List Request) (words : List ℕ) (k n : ℕ) (s : MachineState) →
    TakesFrom words (task_in s.work k) → TakesFrom words (task_in (cycles_of rule p requests n s).work k)
unfolding cycles_of
cycles_from rule p requests words k zero s h = h
cycles_from rule p requests words k (suc n) s h =
    step_from rule p requests words k (cycles_of rule p requests n s) (cycles_from rule p requests words k n s h)

-- ---- a run

first_at : (rs : List TaskRecord) (inputs : List (List ℕ)) (k : ℕ) → k < length rs →
    slice_index_or (first_tasks rs inputs) k no_task ≡ first_task (slice_index_or rs k no_record) (slice_index_or inputs k [])
first_at [] inputs k lt = absurd (omega arith)
first_at (r ∷ rs) [] zero lt = refl
first_at (r ∷ rs) [] (suc k) lt = first_at rs [] k (omega arith)
first_at (r ∷ rs) (words ∷ inputs) zero lt = refl
first_at (r ∷ rs) (words ∷ inputs) (suc k) lt = first_at rs inputs k (omega arith)

pub words_are_taken_in_order : (rule : ReplacementRule) (p : Setup) (content : List ℕ) (inputs : List (List ℕ)) (requests : List Request) (n k : ℕ) →
    k < length p.tasks → TakesFrom (slice_index_or inputs k []) (task_in (run_of rule p content inputs requests n).work k)
words_are_taken_in_order rule p content inputs requests n k lt =
    let words : List ℕ = slice_index_or inputs k [] in
    cycles_from rule p requests words k n (start_of p inputs (memory_of p content))
    (subst (TakesFrom words) (sym (first_at p.tasks inputs k lt)) (record { used = omega arith; left = refl }))

pub room_is_of_the_list : (rule : ReplacementRule) (p : Setup) (content : List ℕ) (inputs : List (List ℕ)) (requests : List Request) (n k : ℕ) →
    k < length p.tasks → has_room_for_word k (run_of rule p content inputs requests n) ≡ nat_lt (length (slice_index_or inputs k [])) inputs_size
room_is_of_the_list rule p content inputs requests n k lt =
    let words : List ℕ = slice_index_or inputs k [] in
    let t : Task = task_in (run_of rule p content inputs requests n).work k in
    let h : TakesFrom words t = words_are_taken_in_order rule p content inputs requests n k lt in
    let count : length t.left ≡ length words - t.used = ap length h.left ∙ length-drop t.used words in
    let whole : t.used + length t.left ≡ length words = omega (arith, count, h.used) in
    ap (λ m. nat_lt m inputs_size) whole
