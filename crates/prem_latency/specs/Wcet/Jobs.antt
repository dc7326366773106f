-- Jobs whose courses go along weaves, one behind another.
use Rattle.std.specs.Prelude.{◌≡◌, ℕ, ◌+◌, ◌≤◌, List, ◌∷◌, ◌++◌, length, []}
use Rattle.prem_plant.specs.declared.plant.Plant.{Plant}
use Rattle.prem_isa.specs.declared.effect.Change.TheVariants.{Job}
use Rattle.prem_isa.specs.declared.effect.Phase.TheVariants.{Compatible}
use Rattle.prem_isa.specs.Plain.{Did}
use Rattle.prem_cycle.specs.Runs.Position.Finish.{due_of}
use Rattle.prem_sound.specs.Script.Script.{Script}
use Rattle.prem_sets_sound.specs.Weave.Weave.{Weave, dids_of, calls_of, IsWeave}
use Rattle.prem_sound.specs.Scopes.Strands.{Strand, dids_along, IsStrand, ChargedFrom}
use Rattle.prem_wcet_laws.specs.Divided.{Division, steps_of, charge_of, AreLoose, IsCourse, path_of}
use Rattle.prem_wcet_laws.specs.PartedLaws.{is_marked}
use Rattle.prem_latency.specs.Wcet.Marked.{is_marked_call}
use Rattle.prem_latency.specs.Wcet.Openings.{counts_of}
use Rattle.prem_latency.specs.Wcet.Aligned.{StateWithin}
use Rattle.prem_layout.specs.Stretch.Paths.{Takes, longest_from}

-- a strand of these steps that is charged job by job
pub record JobStrand (p : Plant) (s : Script) (cost most begun : ℕ) (steps : List Did) : Type 0 where
  pub strand : Strand
  pub dids_are : dids_along strand ≡ steps
  pub is_strand : IsStrand p strand
  pub charged : ChargedFrom p s cost most begun 0 0 strand

-- a job's course with the step that ends the job, before other jobs
abbrev pub CourseJobsAreCharged : Type 0
CourseJobsAreCharged =
    (p : Plant) (passes : ℕ → ℕ) (s : Script) (counts : List Did → ℕ) (cost most begun : ℕ) (v : Division) (w : Weave) (last : Did) (others : List Did) →
    IsWeave p passes w → IsCourse (is_marked (is_marked_call p counts)) p.line v → AreLoose v → dids_of w ≡ steps_of v → StateWithin s begun (counts_of counts w) →
    last.phase ≡ Compatible → last.change ≡ Job → charge_of p v + (due_of p last + p.switch) ≤ cost → longest_from 0 (path_of p v ++ Takes (due_of p last) ∷ []) ≤ most →
    JobStrand p s cost most (begun + length (calls_of w)) others → JobStrand p s cost most begun (dids_of w ++ last ∷ others)
