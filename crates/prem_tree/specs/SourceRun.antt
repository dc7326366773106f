-- What a run of a program gives, against the meaning.
use Rattle.std.specs.Prelude.{◌≡◌, ℕ, List, map, IsOkAnd}
use Rattle.prem_list.specs.Sequence.{items_of}
use Rattle.prem_syntax.specs.Expressions.{Outcome}
use Rattle.prem_syntax.specs.Statements.{MarkedCall, ProgramState}
use Rattle.prem_syntax.specs.Source.{unlimited, start, do_jobs}
use Rattle.prem_tree.specs.declared.source.SourceRun.{SourceRun}
use Rattle.prem_tree.specs.declared.resolve.resolved.Resolved.{Resolved}
use Rattle.prem_tree.specs.Resolve.ResolvedOf.{resolved_of}

-- the run ends in a state, of whose marked calls it names the functions
pub record EndsIn (run : SourceRun) (s : ProgramState) : Type 0 where
  pub outputs_are : items_of run.outputs ≡ s.outputs
  pub marks_are : items_of run.marks ≡ map (λ (m : MarkedCall). m.function) s.marks
  pub globals_are : map items_of (items_of run.globals) ≡ s.globals
  pub used_is : run.used ≡ s.used

-- the outcome is right, and the run ends in its state
abbrev pub IsRun : SourceRun → Outcome ProgramState → Type 0
IsRun run outcome = IsOkAnd outcome (EndsIn run)

-- what a resolved program in memory does in so many jobs
abbrev pub resolved_outcome : Resolved → List ℕ → ℕ → Outcome ProgramState
resolved_outcome r inputs jobs = do_jobs unlimited (resolved_of unlimited.turns r) jobs (start (resolved_of unlimited.turns r) inputs)
