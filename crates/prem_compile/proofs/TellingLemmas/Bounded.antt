-- Where the bounds that are told aren't too large, those of all tasks aren't; and the longest interval of one more task.
use Rattle.std.specs.List.{AllByRecursion}
use Rattle.std.proofs.Common.{◌≡◌, ℕ, ◌+◌, ◌<◌, refl, ap, ◌∙◌, sym, subst, List, [], ◌∷◌, ◌++◌, length, map, take, get_or}
use Rattle.std.proofs.lemmas.List.{take_more}
use Rattle.std.proofs.lemmas.List.Elements.{All-from_recursion}
use Rattle.prem_plant.specs.declared.plant.Plant.{Plant}
use Rattle.prem_layout.specs.Bounds.{JobBound}
use Rattle.prem_layout.specs.Stretch.Paths.{longest_of}
use Rattle.prem_place.specs.Placed.PlacedOf.{placed_of}
use Rattle.prem_place.specs.Totals.Limits.{IsBound}
use Rattle.prem_place.specs.declared.placed.PlacedTask.{PlacedTask}
use Rattle.prem_tasks.specs.Compiled.{job_bounds}
use Rattle.prem_compile.specs.Telling.Longest.{HasBound, longest_in}

pub have_bounds : (p : Plant) (tasks : List PlacedTask) (jobs : List ℕ) →
    jobs ≡ map (λ (j : JobBound). j.bound) (job_bounds p (map placed_of tasks)) → AllByRecursion IsBound jobs → AllByRecursion (HasBound p) tasks
have_bounds p tasks jobs is small = each tasks (subst (AllByRecursion IsBound) is small) where
  each : (ts : List PlacedTask) → AllByRecursion IsBound (map (λ (j : JobBound). j.bound) (job_bounds p (map placed_of ts))) → AllByRecursion (HasBound p) ts
  each [] h = tt
  each (t ∷ ts) h = (h.0, each ts h.1)

-- ---- one more task

longest_more : (p : Plant) (ts : List PlacedTask) (t : PlacedTask) →
    longest_in p (map placed_of (ts ++ t ∷ [])) ≡ longest_in p (map placed_of ts) ++ longest_of p (placed_of t).plans (placed_of t).table ∷ []
longest_more p [] t = refl
longest_more p (x ∷ xs) t = ap (λ ns. longest_of p (placed_of x).plans (placed_of x).table ∷ ns) (longest_more p xs t)

pub task_told : (p : Plant) (ts : List PlacedTask) (k : ℕ) (t : PlacedTask) (n : ℕ) (front all : List ℕ) → k < length ts → t ≡ get_or ts k t →
    n ≡ longest_of p (placed_of t).plans (placed_of t).table →
    front ≡ longest_in p (map placed_of (take k ts)) → all ≡ front ++ n ∷ [] → all ≡ longest_in p (map placed_of (take (k + 1) ts))
task_told p ts k t n front all lt is en ef ea =
    ea
    ∙ ap (λ ns. ns ++ n ∷ []) ef
    ∙ ap (λ m. longest_in p (map placed_of (take k ts)) ++ m ∷ []) (en ∙ ap (λ (x : PlacedTask). longest_of p (placed_of x).plans (placed_of x).table) is)
    ∙ sym (ap (λ xs. longest_in p (map placed_of xs)) (take_more ts k t lt) ∙ longest_more p (take k ts) (get_or ts k t))

pub one_bounded : (p : Plant) (ts : List PlacedTask) (k : ℕ) (t : PlacedTask) → k < length ts → t ≡ get_or ts k t → AllByRecursion (HasBound p) ts → HasBound p t
one_bounded p ts k t lt is all = subst (HasBound p) (sym is) (All-from_recursion (HasBound p) ts all k t lt)

pub small_more : (ns all : List ℕ) (n : ℕ) → AllByRecursion IsBound ns → IsBound n → all ≡ ns ++ n ∷ [] → AllByRecursion IsBound all
small_more ns all n h k e = subst (AllByRecursion IsBound) (sym e) (more ns h) where
  more : (ms : List ℕ) → AllByRecursion IsBound ms → AllByRecursion IsBound (ms ++ n ∷ [])
  more [] h = (k, tt)
  more (m ∷ ms) h = (h.0, more ms h.1)
