-- What is seen of functions.
use Rattle.std.specs.Prelude.{◌≡◌, ℕ, ◌+◌, List, [], ◌∷◌, ◌++◌, map, slice_get, Some}
use Rattle.prem_analysis.specs.Prelude.{items_of, bounds_in, known_parameter, Site, in_routine, first, first_of, Ranged, Routine, unlimited, global_of, function_of, term_of, routines_of}
use Rattle.prem_analysis.specs.Prelude.{option_map}
use Rattle.prem_analysis.specs.Ranging.Plain.{plain}
use Rattle.prem_analysis.specs.Ranging.SiteOf.{watches_at}
use Rattle.prem_analysis.specs.Seen.{Seen}
use Rattle.prem_analysis.specs.declared.ranging.site.Marked.{Marked}
use Rattle.prem_syntax.specs.declared.tree.Global.{Global}
use Rattle.prem_tree.specs.declared.resolve.resolved.Routine.{Routine as RoutineTree}
use Rattle.std.specs.Borrow.{Bor}

-- a function in memory, with no turns
abbrev pub plain_routine : RoutineTree → Routine
plain_routine r = record { text = function_of r.text.now; locals = map term_of (items_of r.locals); body = plain r.body; result = option_map term_of r.result }

-- what is seen behind a function
abbrev pub behind_routine : Site → Routine → Seen → Seen
behind_routine site f s = record { bounds = s.bounds ++ bounds_in f; found = first s.found (first_of (in_routine site f)) }

-- the functions from number n on, each among what stands around it
abbrev pub behind_routines : (ℕ → Site) → ℕ → List RoutineTree → Seen → Seen
behind_routines at n [] s = s
behind_routines at n (f ∷ fs) s = behind_routines at (n + 1) fs (behind_routine (at n) (plain_routine f) s)

-- what stands around the function with a number
abbrev pub site_at : List (Bor Global) → List RoutineTree → List Marked → ℕ → Site
site_at globals routines marked n = record { globals = map (λ g. global_of g.now) globals; routines = routines_of unlimited.turns 0 routines; watches = watches_at n marked }

-- the stated ranges of all parameters lie in their kinds, and hold a number
pub record AllRanged (rs : List RoutineTree) : Type 0 where
  pub each : (n : ℕ) (r : RoutineTree) → slice_get rs n ≡ Some r → Ranged (map known_parameter (function_of r.text.now).params)
