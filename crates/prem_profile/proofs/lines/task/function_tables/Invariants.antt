use Rattle.std.proofs.Common.{◌≡◌, ◌++◌, map, drop}
use Rattle.prem_profile.specs.Lines.Memory.{routine_lines}
use Rattle.prem_profile.proofs.lines.task.function_tables.Given as goal

-- what is there, and what is left
abbrev pub invariant-routines : goal.invariant-routines
invariant-routines l = map (λ lines. lines.items) l.all.items ++ map (routine_lines l.target) (drop l.routine-index l.routines) ≡ map (routine_lines l.target) l.routines
