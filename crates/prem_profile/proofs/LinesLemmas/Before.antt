-- The line table of steps in memory is that of the steps for which they stand.
use Rattle.std.specs.Prelude.{◌||◌}
use Rattle.std.proofs.Common.{◌≡◌, ℕ, ◌+◌, Bool, true, false, List, ◌++◌, map, refl, ap, ◌∙◌, sym, append_assoc, append-nil}
use Rattle.std.specs.Option.{option_map}
use Rattle.prem_list.specs.Sequence.{items_of}
use Rattle.prem_plant.specs.declared.plant.Target.{Target}
use Rattle.prem_syntax.specs.SyntaxOf.{local_of}
use Rattle.prem_syntax.specs.Resolved.{Steps, Done}
use Rattle.prem_tree.specs.declared.resolve.resolved.Step.{Step, Row_of-Step, end_of-Step, more_of-Step}
use Rattle.prem_tree.specs.declared.resolve.resolved.Step.TheVariants.{Block', SetLocal, SetScalar, SetElement, Output, Input, If', For', While', Call}
use Rattle.prem_tree.specs.declared.resolve.resolved.Routine.{Routine}
use Rattle.prem_tree.specs.Resolve.ResolvedOf.{loops_of, term_of, step_before, row_before, routine_of}
use Rattle.prem_profile.specs.Lines.Table.{at_line, argument_lines, begins, constant_words, function_lines, jump_words, local_lines, result_lines, scale_words, steps_lines, target_words, term_lines}
use Rattle.prem_profile.specs.Lines.Memory.{has_code, lines_at, routine_lines, row_has, row_lines}

-- ---- lists one behind another

three : (a b c : List ℕ) → a ++ (b ++ c) ≡ (a ++ b) ++ c
three a b c = sym (append_assoc a b c)

four : (a b c d : List ℕ) → a ++ (b ++ (c ++ d)) ≡ (a ++ (b ++ c)) ++ d
four a b c d = ap (λ x. a ++ x) (three b c d) ∙ three a (b ++ c) d

five : (a b c d e : List ℕ) → a ++ (b ++ (c ++ (d ++ e))) ≡ (a ++ (b ++ (c ++ d))) ++ e
five a b c d e = ap (λ x. a ++ x) (four b c d e) ∙ three a (b ++ (c ++ d)) e

six : (a b c d e f : List ℕ) → a ++ (b ++ (c ++ (d ++ (e ++ f)))) ≡ (a ++ (b ++ (c ++ (d ++ e)))) ++ f
six a b c d e f = ap (λ x. a ++ x) (five b c d e f) ∙ three a (b ++ (c ++ (d ++ e))) f

seven : (a b c d e f g : List ℕ) → a ++ (b ++ (c ++ (d ++ (e ++ (f ++ g))))) ≡ (a ++ (b ++ (c ++ (d ++ (e ++ f))))) ++ g
seven a b c d e f g = ap (λ x. a ++ x) (six b c d e f g) ∙ three a (b ++ (c ++ (d ++ (e ++ f)))) g

-- ---- whether there is a statement

or_false : (b : Bool) → (b || false) ≡ b
or_false true = refl
or_false false = refl

or_assoc : (a b c : Bool) → (a || (b || c)) ≡ ((a || b) || c)
or_assoc true b c = refl
or_assoc false b c = refl

mutual
  begins_before : (turns : ℕ → ℕ) (m : ℕ) (s : Step) (rest : Steps) → begins (step_before turns m s rest) ≡ (has_code s || begins rest)
  begins_before turns m (Block' shape body) rest = begins_row turns m body rest
  begins_before turns m (SetLocal at k value) rest = refl
  begins_before turns m (SetScalar at g ty value) rest = refl
  begins_before turns m (SetElement at g ty index value) rest = refl
  begins_before turns m (Output at value) rest = refl
  begins_before turns m (Input at k) rest = refl
  begins_before turns m (If' at condition p taken q other) rest = refl
  begins_before turns m (For' at k low closed high step p body) rest = refl
  begins_before turns m (While' at most condition p body) rest = refl
  begins_before turns m (Call at to f arguments) rest = refl

  begins_row : {l : _} (turns : ℕ → ℕ) (m : ℕ) (row : Row_of-Step l) (rest : Steps) → begins (row_before turns m row rest) ≡ (row_has row || begins rest)
  begins_row turns m end_of-Step rest = refl
  begins_row turns m (more_of-Step first others) rest =
      begins_before turns m first (row_before turns (m + loops_of first) others rest)
      ∙ ap (λ b. has_code first || b) (begins_row turns (m + loops_of first) others rest)
      ∙ or_assoc (has_code first) (row_has others) (begins rest)

-- ---- lines

mutual
  lines_before : (target : Target) (turns : ℕ → ℕ) (m : ℕ) (s : Step) (rest : Steps) → steps_lines target (step_before turns m s rest) ≡ lines_at target s ++ steps_lines target rest
  lines_before target turns m (Block' shape body) rest = row_lines_before target turns m body rest
  lines_before target turns m (SetLocal at k value) rest = three (term_lines target at.line (term_of value)) (at_line at.line 1) (steps_lines target rest)
  lines_before target turns m (SetScalar at g ty value) rest = three (term_lines target at.line (term_of value)) (at_line at.line 3) (steps_lines target rest)
  lines_before target turns m (SetElement at g ty index value) rest =
      four (term_lines target at.line (term_of value)) (term_lines target at.line (term_of index)) (at_line at.line (scale_words ty + 4)) (steps_lines target rest)
  lines_before target turns m (Output at value) rest = three (term_lines target at.line (term_of value)) (at_line at.line 1) (steps_lines target rest)
  lines_before target turns m (Input at k) rest = refl
  lines_before target turns m (If' at condition p taken q other) rest =
      let c = term_lines target at.line (term_of condition) in
      let two = at_line at.line 2 in
      let more = steps_lines target rest in
      let second = step_before turns (m + loops_of taken) other Done in
      let t : steps_lines target (step_before turns m taken Done) ≡ lines_at target taken = lines_before target turns m taken Done ∙ append-nil (lines_at target taken) in
      let o : steps_lines target second ≡ lines_at target other = lines_before target turns (m + loops_of taken) other Done ∙ append-nil (lines_at target other) in
      let h : begins second ≡ has_code other = begins_before turns (m + loops_of taken) other Done ∙ or_false (has_code other) in
      ap (λ x. c ++ (two ++ (x ++ (at_line at.line (jump_words (begins second)) ++ (steps_lines target second ++ more))))) t
      ∙ ap (λ b. c ++ (two ++ (lines_at target taken ++ (at_line at.line (jump_words b) ++ (steps_lines target second ++ more))))) h
      ∙ ap (λ x. c ++ (two ++ (lines_at target taken ++ (at_line at.line (jump_words (has_code other)) ++ (x ++ more))))) o
      ∙ six c two (lines_at target taken) (at_line at.line (jump_words (has_code other))) (lines_at target other) more
  lines_before target turns m (For' at k low closed high step p body) rest =
      let a = term_lines target at.line (term_of low) in
      let b = term_lines target at.line (term_of high) in
      let two = at_line at.line 2 in
      let four_more = at_line at.line 4 in
      let more = steps_lines target rest in
      let t : steps_lines target (step_before turns (m + 1) body Done) ≡ lines_at target body = lines_before target turns (m + 1) body Done ∙ append-nil (lines_at target body) in
      ap (λ x. a ++ (two ++ (b ++ (two ++ (x ++ (four_more ++ more)))))) t ∙ seven a two b two (lines_at target body) four_more more
  lines_before target turns m (While' at most condition p body) rest =
      let first = at_line at.line (constant_words most + 4) in
      let c = term_lines target at.line (term_of condition) in
      let six_more = at_line at.line 6 in
      let back = at_line at.line 1 in
      let more = steps_lines target rest in
      let t : steps_lines target (step_before turns m body Done) ≡ lines_at target body = lines_before target turns m body Done ∙ append-nil (lines_at target body) in
      ap (λ x. first ++ (c ++ (six_more ++ (x ++ (back ++ more))))) t ∙ six first c six_more (lines_at target body) back more
  lines_before target turns m (Call at to f arguments) rest =
      three (argument_lines target at.line (map term_of (items_of arguments))) (at_line at.line (1 + target_words to)) (steps_lines target rest)

  row_lines_before : {l : _} (target : Target) (turns : ℕ → ℕ) (m : ℕ) (row : Row_of-Step l) (rest : Steps) →
      steps_lines target (row_before turns m row rest) ≡ row_lines target row ++ steps_lines target rest
  row_lines_before target turns m end_of-Step rest = refl
  row_lines_before target turns m (more_of-Step first others) rest =
      lines_before target turns m first (row_before turns (m + loops_of first) others rest)
      ∙ ap (λ x. lines_at target first ++ x) (row_lines_before target turns (m + loops_of first) others rest)
      ∙ three (lines_at target first) (row_lines target others) (steps_lines target rest)

-- that of a function
pub routine_lines_are : (target : Target) (turns : ℕ → ℕ) (m : ℕ) (r : Routine) → routine_lines target r ≡ function_lines target (routine_of turns m r)
routine_lines_are target turns m r =
    let line = r.text.now.at.line in
    let body : steps_lines target (step_before turns m r.body Done) ≡ lines_at target r.body = lines_before target turns m r.body Done ∙ append-nil (lines_at target r.body) in
    ap (λ x. at_line line 2 ++ (local_lines target line (map local_of (items_of r.text.now.locals)) (map term_of (items_of r.locals))
    ++ (x ++ (result_lines target (option_map term_of r.result) ++ at_line line 3)))) (sym body)
