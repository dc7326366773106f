use Rattle.std.proofs.Common.{◌≡◌, ◌++◌, map, drop}
use Rattle.prem_profile.specs.Lines.Told.{lines_told}
use Rattle.prem_profile.specs.SetsTold.{tables_from}
use Rattle.prem_profile.proofs.strips.tables_of.Given as goal

-- what is there, and what is left
abbrev pub invariant-tasks : goal.invariant-tasks
invariant-tasks l = map lines_told l.all.items ++ tables_from l.target (drop l.n l.tasks) (drop l.n l.coded) ≡ tables_from l.target l.tasks l.coded
