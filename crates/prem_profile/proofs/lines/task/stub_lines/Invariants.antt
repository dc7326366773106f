use Rattle.std.proofs.Common.{◌≡◌, ◌++◌, drop}
use Rattle.prem_profile.specs.Lines.Told.{marks_of}
use Rattle.prem_profile.proofs.lines.task.stub_lines.Given as goal

-- what is there, and what is left
abbrev pub invariant-routines : goal.invariant-routines
invariant-routines l = l.lines.items ++ marks_of l.left (drop l.routine-index l.routines) ≡ marks_of l.marks l.routines
