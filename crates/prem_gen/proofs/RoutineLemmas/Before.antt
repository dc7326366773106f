-- The code of steps in memory is that of the steps for which they stand.
use Rattle.std.proofs.Common.{◌≡◌, ℕ, ◌+◌, [], ◌∷◌, refl, ap, ◌∙◌, sym, arith, Option, None, Some, map}
use Rattle.prem_list.specs.Sequence.{items_of}
use Rattle.prem_isa.specs.declared.instr.Instr.TheVariants.{PmOut}
use Rattle.prem_syntax.specs.declared.tree.Place.{Place}
use Rattle.prem_syntax.specs.Resolved.{Steps, Done}
use Rattle.prem_tree.specs.declared.resolve.resolved.Step.{Step, Row_of-Step, end_of-Step, more_of-Step}
use Rattle.prem_tree.specs.declared.resolve.resolved.Step.TheVariants.{Block', SetLocal, SetScalar, SetElement, Output, Input, If', For', While', Call}
use Rattle.prem_tree.specs.Resolve.ResolvedOf.{term_of, loops_of, step_before, row_before}
use Rattle.prem_asm.specs.Pieces.{Pieces, no_pieces, straight, either, repeat, call_to, followed}
use Rattle.prem_asm.proofs.Rows.{followed_append, followed_none}
use Rattle.prem_layout.specs.Template.Terms.{only, constant, nonzero, term_code}
use Rattle.prem_layout.specs.Template.Frames.{counters_in}
use Rattle.prem_layout.specs.Template.Steps.{Parts, load_slot, store_slot, scalar_store, element_store, bound_test, step_code, count_code, turn_code, argument_code, target_code, steps_code}
use Rattle.prem_layout.specs.Template.Limits.{first_of, too_deep, too_deep_in}
use Rattle.prem_gen.specs.Routine.StepCode.{whiles_of, row_whiles, code_at, row_code, deep_in, row_deep}

-- ---- counters

same : (n : ℕ) → n ≡ n + 0
same n = omega arith

mutual
  pub counters_before : (turns : ℕ → ℕ) (m : ℕ) (s : Step) (rest : Steps) → counters_in (step_before turns m s rest) ≡ whiles_of s + counters_in rest
  counters_before turns m (Block' shape body) rest = row_counters turns m body rest
  counters_before turns m (SetLocal at k value) rest = omega arith
  counters_before turns m (SetScalar at g ty value) rest = omega arith
  counters_before turns m (SetElement at g ty index value) rest = omega arith
  counters_before turns m (Output at value) rest = omega arith
  counters_before turns m (Input at k) rest = omega arith
  counters_before turns m (If' at condition p taken q other) rest =
      omega (arith, counters_before turns m taken Done, counters_before turns (m + loops_of taken) other Done)
  counters_before turns m (For' at k low closed high step p body) rest = omega (arith, counters_before turns (m + 1) body Done)
  counters_before turns m (While' at most condition p body) rest = omega (arith, counters_before turns m body Done)
  counters_before turns m (Call at target callee arguments) rest = omega arith

  row_counters : {l : _} (turns : ℕ → ℕ) (m : ℕ) (row : Row_of-Step l) (rest : Steps) → counters_in (row_before turns m row rest) ≡ row_whiles row + counters_in rest
  row_counters turns m end_of-Step rest = omega arith
  row_counters turns m (more_of-Step first others) rest =
      omega (arith, counters_before turns m first (row_before turns (m + loops_of first) others rest), row_counters turns (m + loops_of first) others rest)

-- ---- code

target_followed : (target : Option ℕ) (rest : Pieces) → followed (target_code target no_pieces) rest ≡ target_code target rest
target_followed None rest = refl
target_followed (Some k) rest = refl

mutual
  code_before : (parts : Parts) (turns : ℕ → ℕ) (n m : ℕ) (s : Step) (rest : Steps) →
      steps_code parts n (step_before turns m s rest) ≡ followed (code_at parts turns n m s) (steps_code parts (n + whiles_of s) rest)
  code_before parts turns n m (Block' shape body) rest = row_code_before parts turns n m body rest
  code_before parts turns n m (SetLocal at k value) rest =
      ap (λ i. followed (term_code parts.target parts.global 10 (term_of value)) (straight (store_slot k ∷ []) (steps_code parts i rest))) (same n)
      ∙ sym (followed_append (term_code parts.target parts.global 10 (term_of value)) (straight (store_slot k ∷ []) no_pieces) (steps_code parts (n + 0) rest))
  code_before parts turns n m (SetScalar at g ty value) rest =
      ap (λ i. followed (term_code parts.target parts.global 10 (term_of value)) (scalar_store (parts.global g) ty (steps_code parts i rest))) (same n)
      ∙ sym (followed_append (term_code parts.target parts.global 10 (term_of value)) (scalar_store (parts.global g) ty no_pieces) (steps_code parts (n + 0) rest))
  code_before parts turns n m (SetElement at g ty index value) rest =
      ap (λ i. followed (term_code parts.target parts.global 10 (term_of value))
      (followed (term_code parts.target parts.global 11 (term_of index)) (element_store (parts.global g) ty (steps_code parts i rest)))) (same n)
      ∙ ap (followed (term_code parts.target parts.global 10 (term_of value)))
      (sym (followed_append (term_code parts.target parts.global 11 (term_of index)) (element_store (parts.global g) ty no_pieces) (steps_code parts (n + 0) rest)))
      ∙ sym (followed_append (term_code parts.target parts.global 10 (term_of value))
      (followed (term_code parts.target parts.global 11 (term_of index)) (element_store (parts.global g) ty no_pieces)) (steps_code parts (n + 0) rest))
  code_before parts turns n m (Output at value) rest =
      ap (λ i. followed (term_code parts.target parts.global 10 (term_of value)) (straight (PmOut 10 ∷ []) (steps_code parts i rest))) (same n)
      ∙ sym (followed_append (term_code parts.target parts.global 10 (term_of value)) (straight (PmOut 10 ∷ []) no_pieces) (steps_code parts (n + 0) rest))
  code_before parts turns n m (Input at k) rest = ap (λ i. followed (code_at parts turns n m (Input at k)) (steps_code parts i rest)) (same n)
  code_before parts turns n m (If' at condition p taken q other) rest =
      let one : counters_in (step_before turns m taken Done) ≡ whiles_of taken = counters_before turns m taken Done ∙ sym (same (whiles_of taken)) in
      let two : counters_in (step_before turns (m + loops_of taken) other Done) ≡ whiles_of other = counters_before turns (m + loops_of taken) other Done ∙ sym (same (whiles_of other)) in
      let c = term_code parts.target parts.global 10 (term_of condition) in
      let last : n + counters_in (step_before turns m taken Done) + counters_in (step_before turns (m + loops_of taken) other Done)
      ≡ n + (whiles_of taken + whiles_of other) = omega (arith, one, two) in
      let second : steps_code parts (n + counters_in (step_before turns m taken Done)) (step_before turns (m + loops_of taken) other Done)
      ≡ code_at parts turns (n + whiles_of taken) (m + loops_of taken) other =
      ap (λ i. steps_code parts (n + i) (step_before turns (m + loops_of taken) other Done)) one
      ∙ (code_before parts turns (n + whiles_of taken) (m + loops_of taken) other Done
      ∙ followed_none (code_at parts turns (n + whiles_of taken) (m + loops_of taken) other)) in
      ap (λ x. followed c (either (nonzero 10) x
      (steps_code parts (n + counters_in (step_before turns m taken Done)) (step_before turns (m + loops_of taken) other Done))
      (steps_code parts (n + counters_in (step_before turns m taken Done) + counters_in (step_before turns (m + loops_of taken) other Done))
      rest))) (code_before parts turns n m taken Done ∙ followed_none (code_at parts turns n m taken))
      ∙ ap (λ x. followed c (either (nonzero 10) (code_at parts turns n m taken) x
      (steps_code parts (n + counters_in (step_before turns m taken Done) + counters_in (step_before turns (m + loops_of taken) other Done)) rest))) second
      ∙ ap (λ i. followed c (either (nonzero 10) (code_at parts turns n m taken) (code_at parts turns (n + whiles_of taken) (m + loops_of taken) other) (steps_code parts i rest))) last
      ∙ sym (followed_append c (either (nonzero 10) (code_at parts turns n m taken)
      (code_at parts turns (n + whiles_of taken) (m + loops_of taken) other) no_pieces) (steps_code parts (n + (whiles_of taken + whiles_of other)) rest))
  code_before parts turns n m (For' at k low closed high step p body) rest =
      let one : counters_in (step_before turns (m + 1) body Done) ≡ whiles_of body = counters_before turns (m + 1) body Done ∙ sym (same (whiles_of body)) in
      let l = term_code parts.target parts.global 10 (term_of low) in
      let head = straight (load_slot k ∷ []) (term_code parts.target parts.global 11 (term_of high)) in
      ap (λ x. followed l (straight (store_slot k ∷ [])
      (repeat (turns m) head (bound_test closed) (followed x (only (step_code k step)))
      (steps_code parts (n + counters_in (step_before turns (m + 1) body Done)) rest))))
      (code_before parts turns n (m + 1) body Done ∙ followed_none (code_at parts turns n (m + 1) body))
      ∙ ap (λ i. followed l (straight (store_slot k ∷ [])
      (repeat (turns m) head (bound_test closed) (followed (code_at parts turns n (m + 1) body) (only (step_code k step)))
      (steps_code parts (n + i) rest)))) one
      ∙ sym (followed_append l (straight (store_slot k ∷ [])
      (repeat (turns m) head (bound_test closed) (followed (code_at parts turns n (m + 1) body) (only (step_code k step))) no_pieces))
      (steps_code parts (n + whiles_of body) rest))
  code_before parts turns n m (While' at most condition p body) rest =
      let last : n + 1 + counters_in (step_before turns m body Done) ≡ n + (1 + whiles_of body) = omega (arith, counters_before turns m body Done) in
      ap (λ x. straight (constant 10 most)
      (straight (store_slot n ∷ []) (repeat most (turn_code parts.target parts.global n (term_of condition)) (nonzero 10)
      (straight (count_code n) x) (steps_code parts (n + 1 + counters_in (step_before turns m body Done)) rest))))
      (code_before parts turns (n + 1) m body Done ∙ followed_none (code_at parts turns (n + 1) m body))
      ∙ ap (λ i. straight (constant 10 most)
      (straight (store_slot n ∷ []) (repeat most (turn_code parts.target parts.global n (term_of condition)) (nonzero 10)
      (straight (count_code n) (code_at parts turns (n + 1) m body)) (steps_code parts i rest)))) last
  code_before parts turns n m (Call at target f arguments) rest =
      let a = argument_code parts.target parts.global (parts.frame f) 0 (map term_of (items_of arguments)) in
      ap (λ i. followed a (call_to (parts.link f) (parts.callee f) (target_code target (steps_code parts i rest)))) (same n)
      ∙ ap (λ x. followed a (call_to (parts.link f) (parts.callee f) x)) (sym (target_followed target (steps_code parts (n + 0) rest)))
      ∙ sym (followed_append a (call_to (parts.link f) (parts.callee f) (target_code target no_pieces)) (steps_code parts (n + 0) rest))

  row_code_before : {l : _} (parts : Parts) (turns : ℕ → ℕ) (n m : ℕ) (row : Row_of-Step l) (rest : Steps) →
      steps_code parts n (row_before turns m row rest) ≡ followed (row_code parts turns n m row) (steps_code parts (n + row_whiles row) rest)
  row_code_before parts turns n m end_of-Step rest = ap (λ i. steps_code parts i rest) (same n)
  row_code_before parts turns n m (more_of-Step first others) rest =
      let sum : n + whiles_of first + row_whiles others ≡ n + (whiles_of first + row_whiles others) = omega arith in
      code_before parts turns n m first (row_before turns (m + loops_of first) others rest)
      ∙ ap (followed (code_at parts turns n m first)) (row_code_before parts turns (n + whiles_of first) (m + loops_of first) others rest)
      ∙ ap (λ i. followed (code_at parts turns n m first) (followed (row_code parts turns (n + whiles_of first) (m + loops_of first) others) (steps_code parts i rest))) sum
      ∙ sym (followed_append (code_at parts turns n m first) (row_code parts turns (n + whiles_of first) (m + loops_of first) others)
      (steps_code parts (n + (whiles_of first + row_whiles others)) rest))

-- nothing behind it
pub code_alone : (parts : Parts) (turns : ℕ → ℕ) (n m : ℕ) (s : Step) → steps_code parts n (step_before turns m s Done) ≡ code_at parts turns n m s
code_alone parts turns n m s = code_before parts turns n m s Done ∙ followed_none (code_at parts turns n m s)

-- ---- the first expression that is too deep

first_none : (a : Option Place) → first_of a None ≡ a
first_none None = refl
first_none (Some at) = refl

first_assoc : (a b c : Option Place) → first_of (first_of a b) c ≡ first_of a (first_of b c)
first_assoc None b c = refl
first_assoc (Some at) b c = refl

mutual
  deep_before : (turns : ℕ → ℕ) (m : ℕ) (s : Step) (rest : Steps) → too_deep_in (step_before turns m s rest) ≡ first_of (deep_in s) (too_deep_in rest)
  deep_before turns m (Block' shape body) rest = row_deep_before turns m body rest
  deep_before turns m (SetLocal at k value) rest = refl
  deep_before turns m (SetScalar at g ty value) rest = refl
  deep_before turns m (SetElement at g ty index value) rest = sym (first_assoc (too_deep 11 (term_of index)) (too_deep 10 (term_of value)) (too_deep_in rest))
  deep_before turns m (Output at value) rest = refl
  deep_before turns m (Input at k) rest = refl
  deep_before turns m (If' at condition p taken q other) rest =
      let c = too_deep 10 (term_of condition) in
      ap (λ o. first_of c (first_of o (first_of (too_deep_in (step_before turns (m + loops_of taken) other Done)) (too_deep_in rest)))) (deep_before turns m taken Done ∙ first_none (deep_in taken))
      ∙ ap (λ o. first_of c (first_of (deep_in taken) (first_of o (too_deep_in rest)))) (deep_before turns (m + loops_of taken) other Done ∙ first_none (deep_in other))
      ∙ ap (first_of c) (sym (first_assoc (deep_in taken) (deep_in other) (too_deep_in rest)))
      ∙ sym (first_assoc c (first_of (deep_in taken) (deep_in other)) (too_deep_in rest))
  deep_before turns m (For' at k low closed high step p body) rest =
      let a = too_deep 10 (term_of low) in
      let b = too_deep 11 (term_of high) in
      ap (λ o. first_of a (first_of b (first_of o (too_deep_in rest)))) (deep_before turns (m + 1) body Done ∙ first_none (deep_in body))
      ∙ ap (first_of a) (sym (first_assoc b (deep_in body) (too_deep_in rest)))
      ∙ sym (first_assoc a (first_of b (deep_in body)) (too_deep_in rest))
  deep_before turns m (While' at most condition p body) rest =
      let c = too_deep 10 (term_of condition) in
      ap (λ o. first_of c (first_of o (too_deep_in rest))) (deep_before turns m body Done ∙ first_none (deep_in body))
      ∙ sym (first_assoc c (deep_in body) (too_deep_in rest))
  deep_before turns m (Call at target f arguments) rest = refl

  row_deep_before : {l : _} (turns : ℕ → ℕ) (m : ℕ) (row : Row_of-Step l) (rest : Steps) → too_deep_in (row_before turns m row rest) ≡ first_of (row_deep row) (too_deep_in rest)
  row_deep_before turns m end_of-Step rest = refl
  row_deep_before turns m (more_of-Step first others) rest =
      deep_before turns m first (row_before turns (m + loops_of first) others rest)
      ∙ ap (first_of (deep_in first)) (row_deep_before turns (m + loops_of first) others rest)
      ∙ sym (first_assoc (deep_in first) (row_deep others) (too_deep_in rest))

pub deep_alone : (turns : ℕ → ℕ) (m : ℕ) (s : Step) → too_deep_in (step_before turns m s Done) ≡ deep_in s
deep_alone turns m s = deep_before turns m s Done ∙ first_none (deep_in s)
