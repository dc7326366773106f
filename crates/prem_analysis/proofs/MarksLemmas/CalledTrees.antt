-- The functions that a tree calls are those that its steps call.
use Rattle.std.proofs.Common.{◌≡◌, ℕ, ◌+◌, List, [], ◌∷◌, ◌++◌, map, refl, ap, sym, ◌∙◌}
use Rattle.prem_analysis.proofs.Prelude.{called, row_called, list_called, items_of, Sequence, callees_in, callee_table, Steps, Done, loops_of, step_before, row_before, routines_of}
use Rattle.prem_analysis.proofs.Prelude.{Routine as RoutineTree, Step, Block, Row_of-Step, end_of-Step, more_of-Step, items-the_row-Step, items_hidden-the_row-Step-0, hidden-the_row-Step-0}
use Rattle.prem_analysis.proofs.Prelude.{Block', SetLocal as SetLocalTree, SetScalar as SetScalarTree, SetElement as SetElementTree, Output as OutputTree, Input as InputTree, If', For'}
use Rattle.prem_analysis.proofs.Prelude.{While', Call as CallTree, append-nil, append_assoc}

three : (a b c : List ℕ) {d e : List ℕ} → d ≡ a → e ≡ b → d ++ (e ++ c) ≡ (a ++ b) ++ c
three a b c {d} {e} one two = ap (λ x. x ++ (e ++ c)) one ∙ ap (λ y. a ++ (y ++ c)) two ∙ sym (append_assoc a b c)

alone : (t : ℕ → ℕ) (n : ℕ) (s : Step) → callees_in (step_before t n s Done) ≡ called s ++ [] → callees_in (step_before t n s Done) ≡ called s
alone t n s h = h ∙ append-nil (called s)

mutual
  calls-before : (t : ℕ → ℕ) (n : ℕ) (s : Step) (rest : Steps) → callees_in (step_before t n s rest) ≡ called s ++ callees_in rest
  calls-before t n (Block' shape body) rest = calls-row t n body rest
  calls-before t n (SetLocalTree at number value) rest = refl
  calls-before t n (SetScalarTree at g ty value) rest = refl
  calls-before t n (SetElementTree at g ty index value) rest = refl
  calls-before t n (OutputTree at value) rest = refl
  calls-before t n (InputTree at number) rest = refl
  calls-before t n (If' at condition p taken q other) rest =
      three (called taken) (called other) (callees_in rest) (alone t n taken (calls-before t n taken Done)) (alone t (n + loops_of taken) other (calls-before t (n + loops_of taken) other Done))
  calls-before t n (For' at number low closed high step p body) rest = ap (λ l. l ++ callees_in rest) (alone t (n + 1) body (calls-before t (n + 1) body Done))
  calls-before t n (While' at most condition p body) rest = ap (λ l. l ++ callees_in rest) (alone t n body (calls-before t n body Done))
  calls-before t n (CallTree at target callee arguments) rest = refl

  calls-row : {m : _} (t : ℕ → ℕ) (n : ℕ) (row : Row_of-Step m) (rest : Steps) → callees_in (row_before t n row rest) ≡ row_called row ++ callees_in rest
  calls-row t n end_of-Step rest = refl
  calls-row t n (more_of-Step first others) rest =
      calls-before t n first (row_before t (n + loops_of first) others rest)
      ∙ ap (λ l. called first ++ l) (calls-row t (n + loops_of first) others rest) ∙ sym (append_assoc (called first) (row_called others) (callees_in rest))

row_listed : {m : _} (row : Row_of-Step m) → row_called row ≡ list_called (items-the_row-Step m row)
row_listed end_of-Step = refl
row_listed (more_of-Step first rest) = ap (λ l. called first ++ l) (row_listed rest)

pub block_called : (body : Sequence Step) → called (Block body) ≡ list_called (items_of body)
block_called body = row_listed (hidden-the_row-Step-0 body.all) ∙ ap list_called (items_hidden-the_row-Step-0 body.all)

-- of all functions
pub tables_same : (t : ℕ → ℕ) (n : ℕ) (rs : List RoutineTree) → map (λ (f : RoutineTree). called f.body) rs ≡ callee_table (routines_of t n rs)
tables_same t n [] = refl
tables_same t n (r ∷ rs) =
    ap (λ cs. cs ∷ map (λ (f : RoutineTree). called f.body) rs) (sym (alone t n r.body (calls-before t n r.body Done)))
    ∙ ap (λ css. callees_in (step_before t n r.body Done) ∷ css) (tables_same t (n + loops_of r.body) rs)
