-- What the laws of this crate say.
use Rattle.std.specs.Prelude.{◌≡◌, ◌≤◌, ◌^◌, ℕ, List, None}
use Rattle.prem_gate.specs.declared.request.Request.{Request}
use Rattle.prem_cycle.specs.Inputs.{FitsRun, image_setup}
use Rattle.prem_tasks.specs.declared.set.TaskSet.{TaskSet as SetTree}
use Rattle.prem_tasks.specs.Broken.{TaskSet, broken}
use Rattle.prem_tasks.specs.Compiled.{compiled}
use Rattle.prem_tasks.specs.SetOf.{set_of}
use Rattle.prem_set.specs.Run.Lawful.{IsLawful}
use Rattle.prem_report.specs.Fitting.Named.{names_for}
use Rattle.prem_exec.specs.Sources.Sources.{names_of}

-- those of its image are the same
abbrev pub CompiledSetsKeepNames : Type 0
CompiledSetsKeepNames =
    (set : TaskSet) → broken set ≡ None → names_for (compiled set).image.tasks (compiled set).image.devices ≡ names_of set

abbrev pub RunFilesOfSetsFit : Type 0
RunFilesOfSetsFit =
    (set : TaskSet) (words : List (List ℕ)) (requests : List Request) → broken set ≡ None → IsLawful (names_of set) words requests →
    FitsRun (image_setup (compiled set).image) words requests

-- the cycle by which all jobs of a lawful set have ended
abbrev pub LimitsAreSmall : Type 0
LimitsAreSmall = (set : SetTree) → broken (set_of set) ≡ None → (compiled (set_of set)).limit ≤ 2 ^ 61
