-- The code of a function in memory.
use Rattle.std.specs.Prelude.{ℕ, ◌+◌, ⊤, List, map, length, Option, None, Some, All}
use Rattle.std.specs.Option.{option_map}
use Rattle.prem_list.specs.Sequence.{items_of}
use Rattle.prem_syntax.specs.declared.tree.Place.{Place}
use Rattle.prem_tree.specs.declared.resolve.resolved.Term.{Term}
use Rattle.prem_tree.specs.declared.resolve.resolved.Routine.{Routine}
use Rattle.prem_tree.specs.Resolve.ResolvedOf.{term_of}
use Rattle.prem_asm.specs.Pieces.{Pieces, straight, followed}
use Rattle.prem_layout.specs.Template.Terms.{only}
use Rattle.prem_layout.specs.Template.Steps.{Parts, opening, closing, declare_code, result_code}
use Rattle.prem_layout.specs.Template.Limits.{first_of, too_deep_among, too_deep_result}
use Rattle.prem_gen.specs.Term.Numbers.{HasSmall}
use Rattle.prem_gen.specs.declared.routine.task.Callee.{Callee}
use Rattle.prem_gen.specs.Routine.Small.{StepSmall}
use Rattle.prem_gen.specs.Routine.StepCode.{code_at, deep_in}

abbrev pub params_in : Routine → ℕ
params_in r = length (items_of r.text.now.params)

-- parameters and locals
abbrev pub locals_in : Routine → ℕ
locals_in r = params_in r + length (items_of r.locals)

-- with a frame of so many bytes; its first counting loop has number m
abbrev pub routine_code : Parts → (ℕ → ℕ) → ℕ → ℕ → Routine → Pieces
routine_code parts turns m frame r =
    straight (opening frame)
    (followed (declare_code parts.target parts.global (params_in r) (map term_of (items_of r.locals)))
    (followed (code_at parts turns (locals_in r) m r.body)
    (followed (result_code parts.target parts.global (option_map term_of r.result)) (only (closing frame)))))

abbrev pub routine_deep : Routine → Option Place
routine_deep r =
    first_of (too_deep_among (map term_of (items_of r.locals))) (first_of (deep_in r.body) (too_deep_result (option_map term_of r.result)))

abbrev pub ResultSmall : Option Term → Type 0
ResultSmall None = ⊤
ResultSmall (Some e) = HasSmall e

-- the numbers in a function are small
pub record RoutineSmall (cs : List Callee) (r : Routine) : Type 0 where
  pub locals_are : All HasSmall (items_of r.locals)
  pub body_is : StepSmall cs r.body
  pub result_is : ResultSmall r.result
