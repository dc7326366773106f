-- The first rule on ranges but for regions that functions with their new ranges break.
use Rattle.std.specs.Prelude.{ℕ, ⊤, ◌≤ℤ◌, List, [], Option, None, Some}
use Rattle.prem_annotate.specs.Prelude.{with_parameters, ranged_routines, Routine, Resolved, GlobalVariable}
use Rattle.prem_annotate.specs.Ranges.Slots.{ParameterRange, with_slots}
use Rattle.prem_ranges.specs.RangeBreaches.{Site, in_routine}
use Rattle.prem_ranges.specs.RangeRules.{RangeRule, RegionOutside, ArgRange, RangeBreach, first_of}
use Rattle.std.specs.List.{flat_map}

-- a function whose parameters are given so much
abbrev pub routine_with : List ParameterRange → Routine → Routine
routine_with row f = with_parameters (with_slots row f.text.params) f

-- where no marked function watches
abbrev pub unwatched_site : List GlobalVariable → List Routine → Site
unwatched_site gs rs = record { globals = gs; routines = rs; watches = [] }

-- of the functions from number n on, among what stands
abbrev pub breaches_among : List GlobalVariable → List Routine → ℕ → List Routine → List RangeBreach
breaches_among gs rs n fs = flat_map (in_routine (unwatched_site gs rs)) (ranged_routines n fs)

-- of all functions, which have no turns
abbrev pub first_in : Resolved → List Routine → Option RangeBreach
first_in r fs = first_of (breaches_among r.globals r.routines 0 fs)

-- what is told of such a rule has no names, and a stated range holds a number
abbrev pub Tellable : RangeRule → Type 0
Tellable (RegionOutside function elements global) = ⊥
Tellable (ArgRange argument stated) = stated.lo ≤ℤ stated.hi
Tellable rule = ⊤

abbrev pub TellableIf : Option RangeBreach → Type 0
TellableIf None = ⊤
TellableIf (Some b) = Tellable b.rule
