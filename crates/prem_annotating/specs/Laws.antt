-- What annotating promises.
use Rattle.std.specs.Prelude.{◌≡◌, ℕ, zero, suc, ◌<◌, ◌≤◌, ◌⊎◌, ℤ, true, List, [], ◌∷◌, slice_get, unwrap_or, Option, None, Some}
use Rattle.prem_annotating.specs.Prelude.{parameters_of, in_routine, range_breaches, RangeBreach, resolved, StaysInRange, IsWellFormed, promoted, globals_of, Routine, Parameter, RegionText}
use Rattle.prem_annotating.specs.Prelude.{MarkText, GlobalVariable, ProgramText, Span, from_to, encloses, IsRange, filter, flat_map, option_map}
use Rattle.prem_annotating.specs.Annotated.{with_mark, with_routines, all_ranged, annotated, is_region_rule, other_breaches, first_other}
use Rattle.prem_annotating.specs.Inferred.{given, ranged_parameter}
use Rattle.prem_annotating.specs.Lists.{Among}
use Rattle.prem_annotating.specs.Seen.{calls_of_all}
use Rattle.prem_syntax.specs.Literals.{ProgramHasWords}
use Rattle.prem_syntax.specs.Source.{source}

-- ---- the same meaning

-- a program and its annotated one do the same: outputs, globals, marked calls and input words used, or wrong at the same line
abbrev pub SameMeaning : Type 0
SameMeaning = (lengths : ℕ → ℕ) (p : ProgramText) (inputs : List ℕ) (jobs : ℕ) → source (annotated lengths p) inputs jobs ≡ source p inputs jobs

-- ---- once more

abbrev pub OnceIsEnough : Type 0
OnceIsEnough = (lengths : ℕ → ℕ) (p : ProgramText) → annotated lengths (annotated lengths p) ≡ annotated lengths p

-- ---- ranges

abbrev pub functions_in : ProgramText → List Routine
functions_in p = (resolved p).routines

-- parameter k of function f
abbrev pub parameter_at : ProgramText → ℕ → ℕ → Option Parameter
parameter_at p f k = slice_get (parameters_of (slice_get (functions_in p) f)) k

-- each parameter of the annotated program has the RANGE that stood, or else the one that all calls of the annotated program give
abbrev pub RangesAreInferred : Type 0
RangesAreInferred =
    (lengths : ℕ → ℕ) (p : ProgramText) → IsWellFormed p → ProgramHasWords p → (f k : ℕ) →
    parameter_at (annotated lengths p) f k ≡ option_map (ranged_parameter (calls_of_all (functions_in (annotated lengths p))) f k) (parameter_at p f k)

-- the least range around some: each lies in it, and each end is an end of one
pub record IsLeast (rs : List Span) (r : Span) : Type 0 where
  pub holds : (s : Span) → Among s rs → encloses r s ≡ true
  pub lowest : Span
  pub lowest_there : Among lowest rs
  pub lowest_is : lowest.lo ≡ r.lo
  pub highest : Span
  pub highest_there : Among highest rs
  pub highest_is : highest.hi ≡ r.hi

-- parameter k of function f has no RANGE, and gets one
pub record GetsRange (lengths : ℕ → ℕ) (p : ProgramText) (f k : ℕ) (r : ℤ × ℤ) : Type 0 where
  pub old : Parameter
  pub old_there : parameter_at p f k ≡ Some old
  pub old_range : old.range ≡ None
  pub new_one : Parameter
  pub new_there : parameter_at (annotated lengths p) f k ≡ Some new_one
  pub new_range : new_one.range ≡ Some r

-- the ranges of all arguments for a parameter, converted to its kind
abbrev pub arguments_for : ProgramText → ℕ → ℕ → Parameter → List Span
arguments_for p f k q = given (calls_of_all (functions_in p)) f k (promoted q.ty)

abbrev pub RangesAreLeast : Type 0
RangesAreLeast =
    (lengths : ℕ → ℕ) (p : ProgramText) → IsWellFormed p → ProgramHasWords p → (f k : ℕ) (r : ℤ × ℤ) → (gets : GetsRange lengths p f k r) →
    IsLeast (arguments_for (annotated lengths p) f k gets.old) (from_to r.0 r.1)

-- ---- rules

-- where no rule on ranges but for regions is broken with the new ranges, the annotated program breaks none
abbrev pub AnnotatedStaysInRange : Type 0
AnnotatedStaysInRange = (lengths : ℕ → ℕ) (p : ProgramText) → IsWellFormed p → ProgramHasWords p → first_other p ≡ None → StaysInRange (annotated lengths p)

-- ---- regions

-- the region with a number has other ends
abbrev pub with_ends : ℕ → ℕ → ℕ → List RegionText → List RegionText
with_ends k low high [] = []
with_ends zero low high (r ∷ rs) = record r { low = low; high = high } ∷ rs
with_ends (suc k) low high (r ∷ rs) = r ∷ with_ends k low high rs

-- a mark with other regions
abbrev pub with_regions : List RegionText → MarkText → MarkText
with_regions rs m = record m { regions = rs }

-- function n has a mark that is changed
abbrev pub at_mark : ℕ → (MarkText → MarkText) → List Routine → List Routine
at_mark n change [] = []
at_mark zero change (f ∷ fs) = with_mark (option_map change f.text.mark) f ∷ fs
at_mark (suc n) change (f ∷ fs) = f ∷ at_mark n change fs

-- the program where region k of function n has other ends
abbrev pub with_region : ℕ → ℕ → ℕ → ℕ → ProgramText → ProgramText
with_region n k low high p = with_routines (at_mark n (λ (m : MarkText). with_regions (with_ends k low high m.regions) m) (functions_in p)) p

abbrev pub region_breaches : ProgramText → List RangeBreach
region_breaches p = filter (λ (b : RangeBreach). is_region_rule b.rule) (range_breaches (resolved p))

-- region k of function n
pub record HasRegion (p : ProgramText) (n k : ℕ) (r : RegionText) : Type 0 where
  pub function : Routine
  pub there : slice_get (functions_in p) n ≡ Some function
  pub mark : MarkText
  pub marked : function.text.mark ≡ Some mark
  pub stands : slice_get mark.regions k ≡ Some r

-- no region of the annotated program can be smaller: with one element less at either end a rule on regions is broken
abbrev pub RegionsAreLeast : Type 0
RegionsAreLeast =
    (lengths : ℕ → ℕ) (p : ProgramText) → IsWellFormed p → ProgramHasWords p → first_other p ≡ None → (n k : ℕ) (r : RegionText) → HasRegion (annotated lengths p) n k r →
    (low high : ℕ) → (r.low < low) ⊎ (high < r.high) → region_breaches (with_region n k low high (annotated lengths p)) ≡ [] → ⊥

-- ---- calls

-- breaches in functions where nothing watches, and where the RANGEs of some functions are those to hold
abbrev pub breaches_by : ProgramText → List Routine → List Routine → List RangeBreach
breaches_by p stated fs = flat_map (in_routine (record { globals = (resolved p).globals; routines = stated; watches = [] })) fs

-- no call breaks a RANGE that is new: the breaches of the program with its new ranges, but for regions, are those by the RANGEs that stood
abbrev pub NewRangesHold : Type 0
NewRangesHold = (p : ProgramText) → IsWellFormed p → ProgramHasWords p → other_breaches p ≡ breaches_by p (functions_in p) (all_ranged p)

-- ---- kinds and globals

-- each RANGE of the annotated program is a range of its parameter's kind: its ends are in order, and numbers of the kind
abbrev pub RangesFit : Type 0
RangesFit =
    (lengths : ℕ → ℕ) (p : ProgramText) → IsWellFormed p → ProgramHasWords p → first_other p ≡ None → (f k : ℕ) (q : Parameter) (r : ℤ × ℤ) →
    parameter_at (annotated lengths p) f k ≡ Some q → q.range ≡ Some r →
    IsRange (promoted q.ty) (from_to r.0 r.1)

-- a region's name is that of a global, and its elements are some of the global's
pub record IsOfGlobal (p : ProgramText) (r : RegionText) : Type 0 where
  pub number : ℕ
  pub variable : GlobalVariable
  pub there : slice_get (globals_of p) number ≡ Some variable
  pub name_is : r.name ≡ variable.name
  pub ordered : r.low ≤ r.high
  pub below : r.high < unwrap_or variable.len 1

-- each region of the annotated program is one of a global
abbrev pub RegionsFit : Type 0
RegionsFit =
    (lengths : ℕ → ℕ) (p : ProgramText) → IsWellFormed p → ProgramHasWords p → first_other p ≡ None → (n k : ℕ) (r : RegionText) → HasRegion (annotated lengths p) n k r → IsOfGlobal p r
