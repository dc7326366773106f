-- The steps that a tree in memory stands for, with no turns.
use Rattle.std.specs.Prelude.{List, [], ◌∷◌, map}
use Rattle.prem_analysis.specs.Prelude.{items_of, Steps, Done, If, For, While, term_of, Step, Row_of-Step, end_of-Step, more_of-Step, Block', SetLocal as SetLocalTree}
use Rattle.prem_analysis.specs.Prelude.{SetScalar as SetScalarTree, SetElement as SetElementTree, Output as OutputTree, Input as InputTree, If', For', While', Call as CallTree}
use Rattle.prem_syntax.specs.Resolved.{SetLocal, SetScalar, SetElement, Output, Input, Call}

abbrev mutual
  pub plain_before : Step → Steps → Steps
  plain_before (Block' shape body) rest = plain_row body rest
  plain_before (SetLocalTree at number value) rest = SetLocal at number (term_of value) rest
  plain_before (SetScalarTree at g ty value) rest = SetScalar at g ty (term_of value) rest
  plain_before (SetElementTree at g ty index value) rest = SetElement at g ty (term_of index) (term_of value) rest
  plain_before (OutputTree at value) rest = Output at (term_of value) rest
  plain_before (InputTree at number) rest = Input at number rest
  plain_before (If' at condition p taken q other) rest = If at (term_of condition) (plain_before taken Done) (plain_before other Done) rest
  plain_before (For' at number low closed high step p body) rest = For at number (term_of low) closed (term_of high) step 0 (plain_before body Done) rest
  plain_before (While' at most condition p body) rest = While at most (term_of condition) (plain_before body Done) rest
  plain_before (CallTree at target callee arguments) rest = Call at target callee (map term_of (items_of arguments)) rest

  pub plain_row : {m : _} → Row_of-Step m → Steps → Steps
  plain_row end_of-Step rest = rest
  plain_row (more_of-Step first others) rest = plain_before first (plain_row others rest)

-- a step alone, and the steps of a list
abbrev pub plain : Step → Steps
plain s = plain_before s Done

abbrev pub plain_list : List Step → Steps
plain_list [] = Done
plain_list (s ∷ ss) = plain_before s (plain_list ss)
