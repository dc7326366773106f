-- The functions that a tree in memory calls.
use Rattle.std.specs.Prelude.{ℕ, List, [], ◌∷◌, ◌++◌}
use Rattle.prem_analysis.specs.Prelude.{Step, Row_of-Step, end_of-Step, more_of-Step, Block', SetLocal, SetScalar, SetElement, Output, Input, If', For', While', Call}

abbrev mutual
  pub called : Step → List ℕ
  called (Block' shape body) = row_called body
  called (SetLocal at number value) = []
  called (SetScalar at g ty value) = []
  called (SetElement at g ty index value) = []
  called (Output at value) = []
  called (Input at number) = []
  called (If' at condition p taken q other) = called taken ++ called other
  called (For' at number low closed high step p body) = called body
  called (While' at most condition p body) = called body
  called (Call at target callee arguments) = callee ∷ []

  pub row_called : {m : _} → Row_of-Step m → List ℕ
  row_called end_of-Step = []
  row_called (more_of-Step first others) = called first ++ row_called others

abbrev pub list_called : List Step → List ℕ
list_called [] = []
list_called (s ∷ ss) = called s ++ list_called ss
