-- The numbers in steps as plain data: those of locals and globals are small, a step is short, and a function calls those
-- before it.
use Rattle.std.specs.Prelude.{◌≡◌, ◌<◌, ◌≤◌, ◌^◌, ⊤, ℕ, List, [], ◌∷◌, Option, None, Some, slice_get}
use Rattle.prem_syntax.specs.Syntax.{ProgramText}
use Rattle.prem_syntax.specs.ProgramRules.{IsWellFormed}
use Rattle.prem_syntax.specs.Resolve.{resolve}
use Rattle.prem_syntax.specs.Resolved.{Term, Steps, Done, SetLocal, SetScalar, SetElement, Output, Input, If, For, While, Call, Routine}
use Rattle.prem_layout.specs.Template.Frames.{frame_of}
use Rattle.prem_gen.specs.Term.Numbers.{IsSmall}
use Rattle.prem_gen.specs.Routine.Small.{TargetIsSmall}
use Rattle.prem_gen.specs.Numbers.Small.{TermSmall}

abbrev pub AllSmall : List Term → Type 0
AllSmall [] = ⊤
AllSmall (e ∷ es) = TermSmall e × AllSmall es

abbrev pub ResultSmall : Option Term → Type 0
ResultSmall None = ⊤
ResultSmall (Some e) = TermSmall e

-- the steps of function n
abbrev pub StepsSmall : ℕ → Steps → Type 0
StepsSmall n Done = ⊤
StepsSmall n (SetLocal at k value rest) = (IsSmall k × TermSmall value) × StepsSmall n rest
StepsSmall n (SetScalar at g ty value rest) = (IsSmall g × TermSmall value) × StepsSmall n rest
StepsSmall n (SetElement at g ty index value rest) = (IsSmall g × (TermSmall index × TermSmall value)) × StepsSmall n rest
StepsSmall n (Output at value rest) = TermSmall value × StepsSmall n rest
StepsSmall n (Input at k rest) = IsSmall k × StepsSmall n rest
StepsSmall n (If at condition taken other rest) = (TermSmall condition × (StepsSmall n taken × StepsSmall n other)) × StepsSmall n rest
StepsSmall n (For at k low closed high step turns body rest) =
    (IsSmall k × (TermSmall low × (TermSmall high × ((step < 2 ^ 11) × StepsSmall n body)))) × StepsSmall n rest
StepsSmall n (While at turns condition body rest) = (TermSmall condition × StepsSmall n body) × StepsSmall n rest
StepsSmall n (Call at target f arguments rest) = (TargetIsSmall target × ((f < n) × AllSmall arguments)) × StepsSmall n rest

-- function n
pub record FunctionSmall (n : ℕ) (r : Routine) : Type 0 where
  pub number_is : n < 256
  pub locals_are : AllSmall r.locals
  pub body_is : StepsSmall n r.body
  pub result_is : ResultSmall r.result

-- the functions of a well-formed program whose frames may be
abbrev pub FunctionsAreSmall : Type 0
FunctionsAreSmall =
    (p : ProgramText) → IsWellFormed p → (turns : ℕ → ℕ) (n : ℕ) (r : Routine) → slice_get (resolve turns p).routines n ≡ Some r →
    frame_of r ≤ 2032 → FunctionSmall n r

-- ---- what is known of each function that steps call

abbrev pub EachCallee : (ℕ → Type 0) → Steps → Type 0
EachCallee P Done = ⊤
EachCallee P (SetLocal at k value rest) = EachCallee P rest
EachCallee P (SetScalar at g ty value rest) = EachCallee P rest
EachCallee P (SetElement at g ty index value rest) = EachCallee P rest
EachCallee P (Output at value rest) = EachCallee P rest
EachCallee P (Input at k rest) = EachCallee P rest
EachCallee P (If at condition taken other rest) = EachCallee P taken × (EachCallee P other × EachCallee P rest)
EachCallee P (For at k low closed high step turns body rest) = EachCallee P body × EachCallee P rest
EachCallee P (While at turns condition body rest) = EachCallee P body × EachCallee P rest
EachCallee P (Call at target f arguments rest) = P f × EachCallee P rest
