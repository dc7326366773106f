-- What the laws of this crate say.
use Rattle.std.specs.Prelude.{◌≡◌, List}
use Rattle.prem_layout.specs.Prelude.{Plant}
use Rattle.prem_layout.specs.Bounds.{CodeTable}
use Rattle.prem_layout.specs.Plans.{Plan}
use Rattle.prem_layout.specs.Stretch.Paths.{stretch_of}
use Rattle.prem_layout.specs.Stretch.Sums.{greatest, task_sums}

-- the four sums of a task's code tell the greatest stretch of all its paths
abbrev pub SumsAreExact : Type 0
SumsAreExact = (p : Plant) (plans : List Plan) (t : CodeTable) → stretch_of p plans t ≡ greatest (task_sums p plans t)
