-- A tree's steps with no turns are its steps with any turns, but for these.
use Rattle.std.proofs.Common.{ℕ, ◌+◌}
use Rattle.prem_analysis.proofs.Prelude.{plain_before, plain_row, items_of, Alike, alike_done, alike_local, alike_scalar, alike_element, alike_output, alike_input, alike_if, alike_for}
use Rattle.prem_analysis.proofs.Prelude.{alike_while, alike_call, Steps, term_of, loops_of, step_before, row_before, Step, Row_of-Step, end_of-Step, more_of-Step, Block'}
use Rattle.prem_analysis.proofs.Prelude.{SetLocal as SetLocalTree, SetScalar as SetScalarTree, SetElement as SetElementTree, Output as OutputTree, Input as InputTree, If', For', While'}
use Rattle.prem_analysis.proofs.Prelude.{Call as CallTree}
use Rattle.std.specs.Prelude.{map}

mutual
  pub plain-alike : (t : ℕ → ℕ) (n : ℕ) (s : Step) {a b : Steps} → Alike (λ _ _. ℕ) a b → Alike (λ _ _. ℕ) (plain_before s a) (step_before t n s b)
  plain-alike t n (Block' shape body) rest = row-alike t n body rest
  plain-alike t n (SetLocalTree at number value) rest = alike_local at number (term_of value) rest
  plain-alike t n (SetScalarTree at g ty value) rest = alike_scalar at g ty (term_of value) rest
  plain-alike t n (SetElementTree at g ty index value) rest = alike_element at g ty (term_of index) (term_of value) rest
  plain-alike t n (OutputTree at value) rest = alike_output at (term_of value) rest
  plain-alike t n (InputTree at number) rest = alike_input at number rest
  plain-alike t n (If' at condition p taken q other) rest = alike_if at (term_of condition) (plain-alike t n taken alike_done) (plain-alike t (n + loops_of taken) other alike_done) rest
  plain-alike t n (For' at number low closed high step p body) rest = alike_for at number (term_of low) closed (term_of high) step n (plain-alike t (n + 1) body alike_done) rest
  plain-alike t n (While' at most condition p body) rest = alike_while at most (term_of condition) (plain-alike t n body alike_done) rest
  plain-alike t n (CallTree at target callee arguments) rest = alike_call at target callee (map term_of (items_of arguments)) rest

  row-alike : {m : _} (t : ℕ → ℕ) (n : ℕ) (row : Row_of-Step m) {a b : Steps} → Alike (λ _ _. ℕ) a b → Alike (λ _ _. ℕ) (plain_row row a) (row_before t n row b)
  row-alike t n end_of-Step rest = rest
  row-alike t n (more_of-Step first others) rest = plain-alike t n first (row-alike t (n + loops_of first) others rest)
