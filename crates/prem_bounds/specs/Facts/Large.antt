-- The first function whose bound on cycles is too large, by tests.
use Rattle.std.specs.Prelude.{ℕ, ◌+◌, ◌==◌, Bool, true, false, ◌&&◌, if◌then◌else◌, List, [], ◌∷◌, is_some, Option, None, Some}
use Rattle.prem_tree.specs.declared.resolve.resolved.Routine.{Routine}
use Rattle.prem_layout.specs.Rules.{or_else}

abbrev pub is_marked_tree : Routine → Bool
is_marked_tree f = is_some f.text.now.mark

-- where function n is marked, whether the first bound that is left is too large
abbrev pub marked_large : Bool → ℕ → List Bool → Option ℕ
marked_large false n large = None
marked_large true n [] = None
marked_large true n (b ∷ bs) = if b then Some n else None

abbrev pub rest_behind : Bool → List Bool → List Bool
rest_behind true (b ∷ bs) = bs
rest_behind _ bs = bs

abbrev pub first_large : ℕ → Bool → ℕ → List Bool → List Bool → Option ℕ
first_large job is_job_large n large [] = None
first_large job is_job_large n large (m ∷ ms) =
    or_else (marked_large m n large)
    (or_else (if (n == job) && is_job_large then Some n else None) (first_large job is_job_large (n + 1) (rest_behind m large) ms))
