-- Names of functions of programs in memory.
use Rattle.std.specs.Prelude.{IfOk}
use Rattle.std.proofs.Common.{◌≡◌, ℕ, zero, suc, ◌+◌, ◌<◌, List, [], ◌∷◌, refl, ap, sym, ◌∙◌, subst, arith, length, map, get_or, slice_index, Result, Ok, Err}
use Rattle.prem_syntax.specs.Name.{name_bytes}
use Rattle.prem_syntax.specs.declared.name.Name.{Name}
use Rattle.prem_tree.specs.declared.resolve.resolved.Routine.{Routine}
use Rattle.prem_tree.specs.Resolve.ResolvedOf.{loops_of, routines_of as plain_routines}
use Rattle.prem_layout.specs.Placed.{name_at}
use Rattle.prem_place.specs.Placed.PlacedOf.{placed_of, routines_of}
use Rattle.prem_place.specs.Verdict.Told.{routines_in, name_in, HasFunction}
use Rattle.prem_place.specs.declared.placed.PlacedTask.{PlacedTask}
use Rattle.prem_place.proofs.BuildImageLemmas.Whole.{routines_long}

pub tasks_long : (tasks : List PlacedTask) → length (map placed_of tasks) ≡ length tasks
tasks_long [] = refl
tasks_long (t ∷ ts) = ap suc (tasks_long ts)

task_within : (tasks : List PlacedTask) (n f : ℕ) → HasFunction (map placed_of tasks) n f → n < length tasks
task_within tasks n f h = omega (arith, h.task, tasks_long tasks)

-- those of a task by its number
pub routines_at : (tasks : List PlacedTask) (n : ℕ) (t : PlacedTask) → n < length tasks → t ≡ get_or tasks n t → routines_in (map placed_of tasks) n ≡ (placed_of t).task.program.routines
routines_at [] n t lt is = absurd (omega arith)
routines_at (x ∷ xs) zero t lt is = ap (λ (q : PlacedTask). (placed_of q).task.program.routines) (sym is)
routines_at (x ∷ xs) (suc n) t lt is = routines_at xs n t (omega arith) is

pub plain_long : (t : PlacedTask) → length (placed_of t).task.program.routines ≡ length (routines_of t)
plain_long t = routines_long (slice_index t.turns.items) 0 (routines_of t)

function_within : (tasks : List PlacedTask) (n f : ℕ) (t : PlacedTask) → HasFunction (map placed_of tasks) n f → n < length tasks → t ≡ get_or tasks n t → f < length (routines_of t)
function_within tasks n f t h lt is = omega (arith, h.function, ap length (routines_at tasks n t lt is), plain_long t)

pub name_from : (turns : ℕ → ℕ) (m : ℕ) (rs : List Routine) (f : ℕ) (r : Routine) → f < length rs → r ≡ get_or rs f r → name_bytes r.text.now.name ≡ name_at (plain_routines turns m rs) f
name_from turns m [] f r lt is = absurd (omega arith)
name_from turns m (x ∷ xs) zero r lt is = ap (λ (q : Routine). name_bytes q.text.now.name) is
name_from turns m (x ∷ xs) (suc f) r lt is = name_from turns (m + loops_of x.body) xs f r (omega arith) is

pub name_is : (tasks : List PlacedTask) (n f : ℕ) (t : PlacedTask) (r : Routine) → n < length tasks → t ≡ get_or tasks n t → f < length (routines_of t) → r ≡ get_or (routines_of t) f r →
    name_bytes r.text.now.name ≡ name_in (map placed_of tasks) n f
name_is tasks n f t r lt is inside at =
    name_from (slice_index t.turns.items) 0 (routines_of t) f r inside at ∙ ap (λ rs. name_at rs f) (sym (routines_at tasks n t lt is))

-- ---- at numbers that are found in code

pub item_within : (tasks : List PlacedTask) (task n f m : ℕ) (t : PlacedTask) (rs : List Routine) → HasFunction (map placed_of tasks) task f →
    n ≡ task → m ≡ f → t ≡ get_or tasks n t → rs ≡ routines_of t → m < length rs
item_within tasks task n f m t rs h en em is er =
    let h' : HasFunction (map placed_of tasks) n f = subst (λ k. HasFunction (map placed_of tasks) k f) (sym en) h in
    omega (arith, em, ap length er, function_within tasks n f t h' (task_within tasks n f h') is)

pub item_name : (tasks : List PlacedTask) (task n f m : ℕ) (t : PlacedTask) (rs : List Routine) (r : Routine) →
    HasFunction (map placed_of tasks) task f → n ≡ task → m ≡ f → t ≡ get_or tasks n t → rs ≡ routines_of t → r ≡ get_or rs m r →
    name_bytes r.text.now.name ≡ name_in (map placed_of tasks) task f
item_name tasks task n f m t rs r h en em is er at =
    let h' : HasFunction (map placed_of tasks) n f = subst (λ k. HasFunction (map placed_of tasks) k f) (sym en) h in
    let at' : r ≡ get_or (routines_of t) f r = at ∙ ap (λ xs. get_or xs m r) er ∙ ap (λ k. get_or (routines_of t) k r) em in
    let lt = task_within tasks n f h' in
    name_is tasks n f t r lt is (function_within tasks n f t h' lt is) at' ∙ ap (λ k. name_in (map placed_of tasks) k f) en

pub name_then : {E : Type 0} (result : Result Name E) (a b : List ℕ) → IfOk result (λ n. name_bytes n ≡ a) → a ≡ b → IfOk result (λ n. name_bytes n ≡ b)
name_then (Ok n) a b h e = h ∙ e
name_then (Err x) a b h e = tt
