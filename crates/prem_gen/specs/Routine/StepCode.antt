-- The code of steps in memory, step by step: the first counter is slot n, the first counting loop has number m.
use Rattle.std.specs.Prelude.{ℕ, ◌+◌, List, [], ◌∷◌, map, Option, None, Bool}
use Rattle.prem_list.specs.Sequence.{items_of}
use Rattle.prem_isa.specs.declared.instr.Instr.TheVariants.{PmIn, PmOut}
use Rattle.prem_syntax.specs.declared.tree.Place.{Place}
use Rattle.prem_syntax.specs.declared.tree.Ty.{Ty}
use Rattle.prem_syntax.specs.Resolved.{Term}
use Rattle.prem_tree.specs.declared.resolve.resolved.Step.{Step, Row_of-Step, end_of-Step, more_of-Step}
use Rattle.prem_tree.specs.declared.resolve.resolved.Step.TheVariants.{Block', SetLocal, SetScalar, SetElement, Output, Input, If', For', While', Call}
use Rattle.prem_tree.specs.Resolve.ResolvedOf.{term_of, loops_of}
use Rattle.prem_asm.specs.Pieces.{Pieces, no_pieces, straight, either, repeat, call_to, followed}
use Rattle.prem_layout.specs.Template.Terms.{only, constant, nonzero, term_code}
use Rattle.prem_layout.specs.Template.Steps.{Parts, load_slot, store_slot, scalar_store, element_store, bound_test, step_code as advance_code, count_code, turn_code, argument_code, target_code}
use Rattle.prem_layout.specs.Template.Limits.{first_of, too_deep, too_deep_among}

-- the BOUNDED loops of a step
abbrev mutual
  pub whiles_of : Step → ℕ
  whiles_of (Block' shape body) = row_whiles body
  whiles_of (SetLocal at number value) = 0
  whiles_of (SetScalar at g ty value) = 0
  whiles_of (SetElement at g ty index value) = 0
  whiles_of (Output at value) = 0
  whiles_of (Input at number) = 0
  whiles_of (If' at condition p taken q other) = whiles_of taken + whiles_of other
  whiles_of (For' at number low closed high step p body) = whiles_of body
  whiles_of (While' at turns condition p body) = 1 + whiles_of body
  whiles_of (Call at target callee arguments) = 0

  pub row_whiles : {m : _} → Row_of-Step m → ℕ
  row_whiles end_of-Step = 0
  row_whiles (more_of-Step first rest) = whiles_of first + row_whiles rest

abbrev pub list_whiles : List Step → ℕ
list_whiles [] = 0
list_whiles (first ∷ rest) = whiles_of first + list_whiles rest

-- ---- single steps

abbrev pub set_local_code : Parts → ℕ → Term → Pieces
set_local_code parts k value = followed (term_code parts.target parts.global 10 value) (only (store_slot k ∷ []))

abbrev pub set_scalar_code : Parts → ℕ → Ty → Term → Pieces
set_scalar_code parts g ty value = followed (term_code parts.target parts.global 10 value) (scalar_store (parts.global g) ty no_pieces)

abbrev pub set_element_code : Parts → ℕ → Ty → Term → Term → Pieces
set_element_code parts g ty index value =
    followed (term_code parts.target parts.global 10 value) (followed (term_code parts.target parts.global 11 index) (element_store (parts.global g) ty no_pieces))

abbrev pub output_code : Parts → Term → Pieces
output_code parts value = followed (term_code parts.target parts.global 10 value) (only (PmOut 10 ∷ []))

abbrev pub input_code : ℕ → Pieces
input_code k = only (PmIn 10 ∷ store_slot k ∷ [])

abbrev pub call_code : Parts → Option ℕ → ℕ → List Term → Pieces
call_code parts target f arguments =
    followed (argument_code parts.target parts.global (parts.frame f) 0 arguments)
    (call_to (parts.link f) (parts.callee f) (target_code target no_pieces))

abbrev pub if_code : Parts → Term → Pieces → Pieces → Pieces
if_code parts condition taken other = followed (term_code parts.target parts.global 10 condition) (either (nonzero 10) taken other no_pieces)

abbrev pub for_code : Parts → ℕ → Term → Bool → Term → ℕ → ℕ → Pieces → Pieces
for_code parts k low closed high step turns body =
    followed (term_code parts.target parts.global 10 low) (straight (store_slot k ∷ [])
    (repeat turns (straight (load_slot k ∷ []) (term_code parts.target parts.global 11 high)) (bound_test closed)
    (followed body (only (advance_code k step))) no_pieces))

abbrev pub while_code : Parts → ℕ → ℕ → Term → Pieces → Pieces
while_code parts n turns condition body =
    straight (constant 10 turns) (straight (store_slot n ∷ [])
    (repeat turns (turn_code parts.target parts.global n condition) (nonzero 10) (straight (count_code n) body) no_pieces))

-- ---- all steps

abbrev mutual
  pub code_at : Parts → (ℕ → ℕ) → ℕ → ℕ → Step → Pieces
  code_at parts turns n m (Block' shape body) = row_code parts turns n m body
  code_at parts turns n m (SetLocal at k value) = set_local_code parts k (term_of value)
  code_at parts turns n m (SetScalar at g ty value) = set_scalar_code parts g ty (term_of value)
  code_at parts turns n m (SetElement at g ty index value) = set_element_code parts g ty (term_of index) (term_of value)
  code_at parts turns n m (Output at value) = output_code parts (term_of value)
  code_at parts turns n m (Input at k) = input_code k
  code_at parts turns n m (If' at condition p taken q other) =
      if_code parts (term_of condition) (code_at parts turns n m taken) (code_at parts turns (n + whiles_of taken) (m + loops_of taken) other)
  code_at parts turns n m (For' at k low closed high step p body) =
      for_code parts k (term_of low) closed (term_of high) step (turns m) (code_at parts turns n (m + 1) body)
  code_at parts turns n m (While' at most condition p body) =
      while_code parts n most (term_of condition) (code_at parts turns (n + 1) m body)
  code_at parts turns n m (Call at target callee arguments) = call_code parts target callee (map term_of (items_of arguments))

  pub row_code : {l : _} → Parts → (ℕ → ℕ) → ℕ → ℕ → Row_of-Step l → Pieces
  row_code parts turns n m end_of-Step = no_pieces
  row_code parts turns n m (more_of-Step first rest) =
      followed (code_at parts turns n m first) (row_code parts turns (n + whiles_of first) (m + loops_of first) rest)

abbrev pub list_code : Parts → (ℕ → ℕ) → ℕ → ℕ → List Step → Pieces
list_code parts turns n m [] = no_pieces
list_code parts turns n m (first ∷ rest) =
    followed (code_at parts turns n m first) (list_code parts turns (n + whiles_of first) (m + loops_of first) rest)

-- ---- the first expression that is too deep

abbrev mutual
  pub deep_in : Step → Option Place
  deep_in (Block' shape body) = row_deep body
  deep_in (SetLocal at number value) = too_deep 10 (term_of value)
  deep_in (SetScalar at g ty value) = too_deep 10 (term_of value)
  deep_in (SetElement at g ty index value) = first_of (too_deep 11 (term_of index)) (too_deep 10 (term_of value))
  deep_in (Output at value) = too_deep 10 (term_of value)
  deep_in (Input at number) = None
  deep_in (If' at condition p taken q other) = first_of (too_deep 10 (term_of condition)) (first_of (deep_in taken) (deep_in other))
  deep_in (For' at number low closed high step p body) =
      first_of (too_deep 10 (term_of low)) (first_of (too_deep 11 (term_of high)) (deep_in body))
  deep_in (While' at turns condition p body) = first_of (too_deep 10 (term_of condition)) (deep_in body)
  deep_in (Call at target callee arguments) = too_deep_among (map term_of (items_of arguments))

  pub row_deep : {m : _} → Row_of-Step m → Option Place
  row_deep end_of-Step = None
  row_deep (more_of-Step first rest) = first_of (deep_in first) (row_deep rest)

abbrev pub list_deep : List Step → Option Place
list_deep [] = None
list_deep (first ∷ rest) = first_of (deep_in first) (list_deep rest)
