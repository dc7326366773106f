-- The cycles of instructions that take no input word.
use Rattle.std.proofs.Common.{◌≡◌, ℕ, ◌+◌, ◌*◌, ◌≤◌, ◌<◌, false, List, Option, None, length, refl, ap, sym, ◌∙◌, subst, arith}
use Rattle.prem_machine.proofs.Prelude.{is_full, log_size, next_cycle, with_now, LineTouch, attempt_in, attempt_of, owed_by, cycles_of, lacks_word, Log, Transaction, MachineState, rule_in, task_in}
use Rattle.prem_machine.proofs.Prelude.{Facts, Mode, Request, next_input, told_by, Access, Effect, Done, Upshot, items_of, view_of, CoreParts, counts_in, put_out, ModeReady, bus_cycles}
use Rattle.prem_machine.proofs.Prelude.{Runs, Stands, state_of, GoesOn, IsComing, IsKept, AreSilent, ended_so_far, IsLone, attempt_at, core_in, setup_in, work_in, Moment, Parts, Setting}
use Rattle.prem_machine.proofs.Prelude.{Works, Plant}
use Rattle.prem_cycle.proofs.CycleParts.{settle_keeps}
use Rattle.prem_machine.proofs.IssueLemmas.Executed.{executed}
use Rattle.prem_machine.proofs.Silence.{issue_silent, lone_silent, one_is, seen_lacks}
use Rattle.prem_machine.proofs.Stretching.{as_state, behind, goes_lone, has_room, kept_stands, turn_of}
use Rattle.prem_machine.proofs.Telling.{cores_told}
use Rattle.prem_machine.proofs.Wanting.{lacks_same}

-- ---- what is attempted

-- an instruction whose upshot tells an effect that takes no word lacks none
pub upshot_lacks : {P : Type 0} (p : Setting) (k : ℕ) (w : Works P) (cost : ℕ) (u : Upshot) (access : Option Access) (effect : (ℕ → ℕ) → Effect) → w.cache.plant ≡ p.plant → IsComing p k w cost u →
    ((v : ℕ → ℕ) (input : ℕ) → Done (effect v) ≡ told_by v (core_in w k).pc input u) →
    ((v : ℕ → ℕ) → record (effect (view_of w.cache w.memory)) { value = (effect v).value } ≡ effect v) → (effect (view_of w.cache w.memory)).access ≡ access →
    (effect (view_of w.cache w.memory)).input ≡ false → lacks_word (core_in w k) (attempt_at w k) ≡ false
upshot_lacks p k w cost u access effect same h does alike at takes =
    let view = view_of w.cache w.memory in
    let core = core_in w k in
    let input = next_input core.left in
    let ex = executed p.plant.target p.plant.memory view core h.word cost access effect h.place h.reads h.costs (λ v. does v input ∙ h.outcome v input) alike at in
    ap (λ (q : Plant). lacks_word core (attempt_in q.target q.memory view core)) same
    ∙ seen_lacks p.plant.target p.plant.memory (λ o. view) core (attempt_in p.plant.target p.plant.memory view core) ex.instr (effect view) (ex.seen (λ o. view)) takes

-- the same with the task's outputs
told_lacks : {P : Type 0} (p : Setting) (requests : List Request) (x : Parts P) (task until : ℕ) → IsLone task until requests (state_of x) → Stands p requests x → Runs x.now (4 * x.now) requests x →
    lacks_word (core_in x.work task) (attempt_at x.work task) ≡ false → lacks_word (task_in (state_of x).work task) (attempt_of (setup_in p) task (state_of x).work) ≡ false
told_lacks p requests x task until h s r lacks =
    let M : Mode → Type 0 = λ d. ModeReady x.now x.sched d in
    let ready = (subst M h.mode r.ready).0 in
    sym (lacks_same p x.work (items_of x.facts.tasks) task (omega (arith, ready, s.tasks, s.cores)) (cores_told p requests x s) s.cache) ∙ lacks

-- ---- all that is owed is paid at once

pub went_silent : {P : Type 0} (p : Setting) (requests : List Request) (x : Parts P) (w : Works P) (f : Facts) (task until cost all : ℕ) (touches : List LineTouch) (owed : List Transaction) →
    IsLone task until requests (state_of x) → Stands p requests x → Runs x.now (4 * x.now) requests x → x.trapped ≡ None → GoesOn p task x.work x.facts w f touches cost →
    owed_by p.plant touches ≡ owed → IsKept x.work x.facts w f → 1 ≤ cost → all ≡ bus_cycles owed + cost → x.now + all ≤ until → put_out (items_of x.facts.tasks) + 2 ≤ log_size →
    length (items_of x.facts.intervals) < log_size → lacks_word (core_in x.work task) (attempt_at x.work task) ≡ false →
    AreSilent (rule_in (setup_in p)) (setup_in p) requests all (state_of x)
went_silent p requests x w f task until cost all touches owed h stands runs none goes owes k some is le room less lacks =
    let s = state_of x in
    let y = behind x w f (x.now + all) x.moment x.core in
    let same = as_state task until requests s (state_of y) h none refl refl refl k.log refl in
    let intervals = ap (λ (l : Log). length l.intervals) k.log in
    let full : is_full s ≡ false = has_room p requests x stands (omega (arith, room)) less in
    let after : is_full (state_of y) ≡ false = has_room p requests y (kept_stands p requests x w f (x.now + all) stands k) (omega (arith, room, k.put)) (omega (arith, less, intervals)) in
    lone_silent (rule_in (setup_in p)) (setup_in p) requests task until s (work_in w (items_of f.tasks)) (counts_in f) cost owed all h none some is le
    (goes_lone requests x task until h none full) (sym (ap is_full same) ∙ after) (turn_of p x w f task cost touches owed goes owes) (told_lacks p requests x task until h stands runs lacks)

-- ---- something else comes first

pub missed_silent : {P : Type 0} (p : Setting) (requests : List Request) (x : Parts P) (w : Works P) (f : Facts) (m : Moment) (c : CoreParts) (t : MachineState) (task until : ℕ) →
    IsLone task until requests (state_of x) → Stands p requests x → Runs x.now (4 * x.now) requests x → x.trapped ≡ None → IsKept x.work x.facts w f → x.now < until →
    t ≡ next_cycle (state_of (behind x w f x.now m c)) → t ≡ cycles_of (rule_in (setup_in p)) (setup_in p) requests 1 (state_of x) →
    lacks_word (core_in x.work task) (attempt_at x.work task) ≡ false → AreSilent (rule_in (setup_in p)) (setup_in p) requests 1 (state_of x)
missed_silent p requests x w f m c t task until h stands runs none k lt next is lacks =
    let s = state_of x in
    let q = setup_in p in
    let mid = state_of (behind x w f x.now m c) in
    let settled = ap length (settle_keeps mid.core.mode (with_now mid (mid.now + 1))).transfers in
    let kept = ap (λ (l : Log). length l.transfers) k.log in
    issue_silent (rule_in q) q requests task until s h none lt (told_lacks p requests x task until h stands runs lacks)
    (ap ended_so_far (sym (one_is (rule_in q) q requests s) ∙ sym is ∙ next) ∙ settled ∙ kept)
