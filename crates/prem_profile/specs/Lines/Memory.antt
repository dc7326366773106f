-- The line table of steps in memory, step by step.
use Rattle.std.specs.Prelude.{ℕ, ◌+◌, ◌||◌, Bool, true, false, List, [], ◌∷◌, ◌++◌, map}
use Rattle.std.specs.Option.{option_map}
use Rattle.prem_list.specs.Sequence.{items_of}
use Rattle.prem_plant.specs.declared.plant.Target.{Target}
use Rattle.prem_syntax.specs.SyntaxOf.{local_of}
use Rattle.prem_tree.specs.declared.resolve.resolved.Step.{Step, Row_of-Step, end_of-Step, more_of-Step}
use Rattle.prem_tree.specs.declared.resolve.resolved.Step.TheVariants.{Block', SetLocal, SetScalar, SetElement, Output, Input, If', For', While', Call}
use Rattle.prem_tree.specs.declared.resolve.resolved.Routine.{Routine}
use Rattle.prem_tree.specs.Resolve.ResolvedOf.{term_of}
use Rattle.prem_profile.specs.Lines.Table.{at_line, argument_lines, constant_words, local_lines, result_lines, scale_words, jump_words, target_words, term_lines}

-- whether there is a statement
abbrev mutual
  pub has_code : Step → Bool
  has_code (Block' shape body) = row_has body
  has_code (SetLocal at k value) = true
  has_code (SetScalar at g ty value) = true
  has_code (SetElement at g ty index value) = true
  has_code (Output at value) = true
  has_code (Input at k) = true
  has_code (If' at condition p taken q other) = true
  has_code (For' at k low closed high step p body) = true
  has_code (While' at turns condition p body) = true
  has_code (Call at to f arguments) = true

  pub row_has : {m : _} → Row_of-Step m → Bool
  row_has end_of-Step = false
  row_has (more_of-Step first rest) = has_code first || row_has rest

abbrev pub list_has : List Step → Bool
list_has [] = false
list_has (first ∷ rest) = has_code first || list_has rest

abbrev mutual
  pub lines_at : Target → Step → List ℕ
  lines_at target (Block' shape body) = row_lines target body
  lines_at target (SetLocal at k value) = term_lines target at.line (term_of value) ++ at_line at.line 1
  lines_at target (SetScalar at g ty value) = term_lines target at.line (term_of value) ++ at_line at.line 3
  lines_at target (SetElement at g ty index value) =
      term_lines target at.line (term_of value) ++ (term_lines target at.line (term_of index) ++ at_line at.line (scale_words ty + 4))
  lines_at target (Output at value) = term_lines target at.line (term_of value) ++ at_line at.line 1
  lines_at target (Input at k) = at_line at.line 2
  lines_at target (If' at condition p taken q other) =
      term_lines target at.line (term_of condition)
      ++ (at_line at.line 2 ++ (lines_at target taken ++ (at_line at.line (jump_words (has_code other)) ++ lines_at target other)))
  lines_at target (For' at k low closed high step p body) =
      term_lines target at.line (term_of low) ++ (at_line at.line 2 ++ (term_lines target at.line (term_of high) ++ (at_line at.line 2 ++ (lines_at target body ++ at_line at.line 4))))
  lines_at target (While' at turns condition p body) =
      at_line at.line (constant_words turns + 4) ++ (term_lines target at.line (term_of condition) ++ (at_line at.line 6 ++ (lines_at target body ++ at_line at.line 1)))
  lines_at target (Call at to f arguments) = argument_lines target at.line (map term_of (items_of arguments)) ++ at_line at.line (1 + target_words to)

  pub row_lines : {m : _} → Target → Row_of-Step m → List ℕ
  row_lines target end_of-Step = []
  row_lines target (more_of-Step first rest) = lines_at target first ++ row_lines target rest

abbrev pub list_lines : Target → List Step → List ℕ
list_lines target [] = []
list_lines target (first ∷ rest) = lines_at target first ++ list_lines target rest

abbrev pub routine_lines : Target → Routine → List ℕ
routine_lines target r =
    at_line r.text.now.at.line 2
    ++ (local_lines target r.text.now.at.line (map local_of (items_of r.text.now.locals)) (map term_of (items_of r.locals))
    ++ (lines_at target r.body ++ (result_lines target (option_map term_of r.result) ++ at_line r.text.now.at.line 3)))
