-- The locals that a tree in memory assigns, in the order of the text.
use Rattle.std.specs.Prelude.{ℕ, List, [], ◌∷◌, ◌++◌, Option, None, Some}
use Rattle.prem_analysis.specs.Prelude.{Step, Row_of-Step, end_of-Step, more_of-Step, Block', SetLocal, SetScalar, SetElement, Output, Input, If', For', While', Call}

abbrev pub target_of : Option ℕ → List ℕ
target_of None = []
target_of (Some k) = k ∷ []

abbrev mutual
  pub targets : Step → List ℕ
  targets (Block' shape body) = row_targets body
  targets (SetLocal at number value) = number ∷ []
  targets (SetScalar at g ty value) = []
  targets (SetElement at g ty index value) = []
  targets (Output at value) = []
  targets (Input at number) = number ∷ []
  targets (If' at condition p taken q other) = targets taken ++ targets other
  targets (For' at number low closed high step p body) = number ∷ targets body
  targets (While' at most condition p body) = targets body
  targets (Call at target callee arguments) = target_of target

  pub row_targets : {m : _} → Row_of-Step m → List ℕ
  row_targets end_of-Step = []
  row_targets (more_of-Step first others) = targets first ++ row_targets others

abbrev pub list_targets : List Step → List ℕ
list_targets [] = []
list_targets (s ∷ ss) = targets s ++ list_targets ss
