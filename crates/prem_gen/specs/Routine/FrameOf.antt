-- The slots of a function in memory.
use Rattle.std.specs.Prelude.{ℕ, ◌+◌}
use Rattle.prem_tree.specs.declared.resolve.resolved.Routine.{Routine}
use Rattle.prem_gen.specs.Routine.StepCode.{whiles_of}
use Rattle.prem_gen.specs.Routine.RoutineCode.{locals_in}

abbrev pub slots_in : Routine → ℕ
slots_in r = locals_in r + whiles_of r.body
