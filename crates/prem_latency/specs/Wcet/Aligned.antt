-- A course along a weave is a strand.
use Rattle.std.specs.Prelude.{◌≡◌, ℕ, ◌+◌, ◌<◌, ◌≤◌, List, [], ◌∷◌, ◌++◌, length, slice_index_or}
use Rattle.prem_plant.specs.declared.plant.Plant.{Plant}
use Rattle.prem_isa.specs.Plain.{Did}
use Rattle.prem_sound.specs.Script.Script.{call_at, Script}
use Rattle.prem_sets_sound.specs.Weave.Weave.{Weave, dids_of, calls_of, IsWeave}
use Rattle.prem_sound.specs.Scopes.Strands.{Strand, ends, runs, joined, StretchesWithin, dids_along, IsStrand, begun_along, charges_along, EndsNoJob}
use Rattle.prem_wcet_laws.specs.Divided.{Division, steps_of, charge_of, path_of, AreLoose, IsCourse}
use Rattle.prem_wcet_laws.specs.PartedLaws.{is_marked}
use Rattle.prem_latency.specs.Wcet.Openings.{counts_of}
use Rattle.prem_latency.specs.Wcet.Marked.{is_marked_call}
use Rattle.prem_sound.specs.Scopes.Scopes.{Scope, charge_of as scope_charge_of}
use Rattle.prem_layout.specs.Stretch.Paths.{Takes, longest_from}

-- the calls of a script from a number on state no more than so much each
abbrev pub StateWithin : Script → (begun : ℕ) → List ℕ → Type 0
StateWithin s begun ns = (i : ℕ) → i < length ns → (call_at s (begun + i)).stated ≤ slice_index_or ns i 0

-- a strand of these steps, which is charged no more than they are, and whose stretches take no more, before a last scope
pub record CourseStrand (p : Plant) (s : Script) (begun : ℕ) (w : Weave) (v : Division) : Type 0 where
  pub strand : Strand
  pub dids_are : dids_along strand ≡ steps_of v
  pub is_strand : IsStrand p strand
  pub no_job : EndsNoJob strand
  pub begun_is : begun_along begun strand ≡ begun + length (calls_of w)
  pub charged : charges_along p s begun strand ≤ charge_of p v
  pub stretches : (most stretch d : ℕ) (last : Scope) → scope_charge_of p last ≤ d → longest_from stretch (path_of p v ++ Takes d ∷ []) ≤ most →
      StretchesWithin p most stretch (joined strand (runs last ends))

-- a course along a weave, whose marked calls count by their steps at least what the script's calls state
abbrev pub CoursesAreStrands : Type 0
CoursesAreStrands =
    (p : Plant) (passes : ℕ → ℕ) (s : Script) (counts : List Did → ℕ) (begun : ℕ) (v : Division) (w : Weave) → IsWeave p passes w →
    IsCourse (is_marked (is_marked_call p counts)) p.line v → AreLoose v →
    dids_of w ≡ steps_of v → StateWithin s begun (counts_of counts w) → CourseStrand p s begun w v
