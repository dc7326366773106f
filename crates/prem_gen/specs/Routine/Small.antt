-- The numbers in steps are small: those of locals, globals and functions, and what a loop adds.
use Rattle.std.specs.Prelude.{◌<◌, ℕ, ◌^◌, ⊤, List, [], ◌∷◌, All, Option, None, Some}
use Rattle.prem_list.specs.Sequence.{items_of}
use Rattle.prem_tree.specs.declared.resolve.resolved.Step.{Step, Row_of-Step, end_of-Step, more_of-Step}
use Rattle.prem_tree.specs.declared.resolve.resolved.Step.TheVariants.{Block', SetLocal, SetScalar, SetElement, Output, Input, If', For', While', Call}
use Rattle.prem_gen.specs.declared.routine.task.Callee.{Callee}
use Rattle.prem_gen.specs.Routine.Parts.{callee_at}
use Rattle.prem_gen.specs.Term.Numbers.{IsSmall, HasSmall}

abbrev pub TargetIsSmall : Option ℕ → Type 0
TargetIsSmall None = ⊤
TargetIsSmall (Some k) = IsSmall k

-- the frame of a function that is called is small
abbrev pub CalleeFits : List Callee → ℕ → Type 0
CalleeFits cs f = IsSmall f × ((callee_at cs f).frame < 2 ^ 16)

abbrev mutual
  pub StepSmall : List Callee → Step → Type 0
  StepSmall cs (Block' shape body) = RowSmall cs body
  StepSmall cs (SetLocal at k value) = IsSmall k × HasSmall value
  StepSmall cs (SetScalar at g ty value) = IsSmall g × HasSmall value
  StepSmall cs (SetElement at g ty index value) = IsSmall g × (HasSmall index × HasSmall value)
  StepSmall cs (Output at value) = HasSmall value
  StepSmall cs (Input at k) = IsSmall k
  StepSmall cs (If' at condition p taken q other) = HasSmall condition × (StepSmall cs taken × StepSmall cs other)
  StepSmall cs (For' at k low closed high step p body) = IsSmall k × (HasSmall low × (HasSmall high × ((step < 2 ^ 11) × StepSmall cs body)))
  StepSmall cs (While' at turns condition p body) = HasSmall condition × StepSmall cs body
  StepSmall cs (Call at target callee arguments) = TargetIsSmall target × (CalleeFits cs callee × All HasSmall (items_of arguments))

  pub RowSmall : {m : _} → List Callee → Row_of-Step m → Type 0
  RowSmall cs end_of-Step = ⊤
  RowSmall cs (more_of-Step first rest) = StepSmall cs first × RowSmall cs rest

abbrev pub ListSmall : List Callee → List Step → Type 0
ListSmall cs [] = ⊤
ListSmall cs (first ∷ rest) = StepSmall cs first × ListSmall cs rest
