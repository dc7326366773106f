-- A program keeps the number of its globals, and so do the marks of its calls.
use Rattle.std.specs.Prelude.{◌≡◌, ℕ, List, length, Ok}
use Rattle.prem_sets_sound.specs.Prelude.{Resolved, Limits, start, do_jobs, ProgramState}
use Rattle.prem_sets_sound.specs.Weave.MeantCalls.Told.{HaveLength}

pub record HasShape (n : ℕ) (s : ProgramState) : Type 0 where
  pub globals : length s.globals ≡ n
  pub marks : HaveLength n s.marks

-- after any number of jobs from its start
abbrev pub JobsKeepShape : Type 0
JobsKeepShape =
    (limits : Limits) (p : Resolved) (inputs : List ℕ) (jobs : ℕ) (after : ProgramState) → do_jobs limits p jobs (start p inputs) ≡ Ok after → HasShape (length p.globals) after
