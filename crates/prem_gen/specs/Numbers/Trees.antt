-- Functions in memory whose numbers are small, by those for which they stand.
use Rattle.std.specs.Prelude.{◌<◌, ℕ, ◌^◌, List}
use Rattle.prem_tree.specs.declared.resolve.resolved.Routine.{Routine}
use Rattle.prem_tree.specs.Resolve.ResolvedOf.{routine_of}
use Rattle.prem_gen.specs.declared.routine.task.Callee.{Callee}
use Rattle.prem_gen.specs.Routine.Parts.{callee_at}
use Rattle.prem_gen.specs.Routine.RoutineCode.{RoutineSmall}
use Rattle.prem_gen.specs.Numbers.Steps.{FunctionSmall, EachCallee}

abbrev pub TreesAreSmall : Type 0
TreesAreSmall =
    (cs : List Callee) (turns : ℕ → ℕ) (m n : ℕ) (r : Routine) → FunctionSmall n (routine_of turns m r) →
    EachCallee (λ f. (callee_at cs f).frame < 2 ^ 16) (routine_of turns m r).body → RoutineSmall cs r
