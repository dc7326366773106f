-- Counts of steps in memory, and of the steps that they stand for.
use Rattle.std.proofs.Common.{◌≡◌, ℕ, ◌+◌, ◌*◌, List, refl, ap, sym, ◌∙◌, arith, drop, slice_index}
use Rattle.std.proofs.lemmas.List.{get_or-drop, drop-drop}
use Rattle.prem_list.specs.declared.Sequence.{Sequence}
use Rattle.prem_list.specs.Sequence.{items_of}
use Rattle.prem_syntax.specs.Resolved.{Steps, Done}
use Rattle.prem_tree.specs.declared.resolve.resolved.Step.{Step, Block, Row_of-Step, end_of-Step, more_of-Step, items-the_row-Step, items_hidden-the_row-Step-0}
use Rattle.prem_tree.specs.declared.resolve.resolved.Step.TheBlock.{hidden-the_row-Step-0}
use Rattle.prem_tree.specs.declared.resolve.resolved.Step.TheVariants.{Block', SetLocal, SetScalar, SetElement, Output, Input, If', For', While', Call}
use Rattle.prem_tree.specs.Resolve.ResolvedOf.{loops_of, list_loops, step_before, row_before}
use Rattle.prem_tree.proofs.ResolveLemmas.StepRows.{row_counted}
use Rattle.prem_ranges.specs.Counts.{most_in}
use Rattle.prem_bounds.specs.Counts.Count.{first_turn, most_of_step, most_of_row, most_of_list}

-- ---- blocks

row_most : {m : _} (output : ℕ) (calls : ℕ → ℕ) (turns : List ℕ) (row : Row_of-Step m) → most_of_row output calls turns row ≡ most_of_list output calls turns (items-the_row-Step m row)
row_most output calls turns end_of-Step = refl
row_most output calls turns (more_of-Step first others) = ap (λ k. most_of_step output calls turns first + k) (row_most output calls (drop (loops_of first) turns) others)

pub block_most : (output : ℕ) (calls : ℕ → ℕ) (turns : List ℕ) (s : Step) (body : Sequence Step) (items : List Step) → s ≡ Block body →
    items ≡ items_of body → most_of_list output calls turns items ≡ most_of_step output calls turns s
block_most output calls turns s body items is e =
    ap (most_of_list output calls turns) e
    ∙ sym (ap (most_of_step output calls turns) is ∙ row_most output calls turns (hidden-the_row-Step-0 body.all) ∙ ap (most_of_list output calls turns) (items_hidden-the_row-Step-0 body.all))

pub block_loops : (s : Step) (body : Sequence Step) (items : List Step) → s ≡ Block body → items ≡ items_of body → list_loops items ≡ loops_of s
block_loops s body items is e =
    ap list_loops e ∙ sym (ap loops_of is ∙ row_counted (hidden-the_row-Step-0 body.all) ∙ ap list_loops (items_hidden-the_row-Step-0 body.all))

-- ---- the steps that they stand for, where the turns are those of a list from number n on

next_turn : (all : List ℕ) (n : ℕ) → first_turn (drop n all) ≡ slice_index all n
next_turn all n = let z : n + 0 ≡ n = omega arith in get_or-drop n all 0 0 ∙ ap (slice_index all) z

behind : (all : List ℕ) (n k : ℕ) → drop k (drop n all) ≡ drop (n + k) all
behind all n k = drop-drop k n all

mutual
  pub step_most : (output : ℕ) (calls : ℕ → ℕ) (all : List ℕ) (n : ℕ) (s : Step) (rest : Steps) →
      most_in output calls (step_before (slice_index all) n s rest) ≡ most_of_step output calls (drop n all) s + most_in output calls rest
  step_most output calls all n (Block' shape body) rest = row_before_most output calls all n body rest
  step_most output calls all n (SetLocal at number value) rest = omega arith
  step_most output calls all n (SetScalar at g ty value) rest = omega arith
  step_most output calls all n (SetElement at g ty index value) rest = omega arith
  step_most output calls all n (Output at value) rest = refl
  step_most output calls all n (Input at number) rest = omega arith
  step_most output calls all n (If' at condition p taken q other) rest =
      let a = step_most output calls all n taken Done in
      let b = step_most output calls all (n + loops_of taken) other Done in
      let e = ap (λ ts. most_of_step output calls ts other) (behind all n (loops_of taken)) in
      omega (arith, a, b, e)
  step_most output calls all n (For' at number low closed high step p body) rest =
      let a : most_in output calls (step_before (slice_index all) (n + 1) body Done) ≡ most_of_step output calls (drop 1 (drop n all)) body =
      step_most output calls all (n + 1) body Done ∙ (let z : (k : ℕ) → k + 0 ≡ k = λ k. omega arith in z (most_of_step output calls (drop (n + 1) all) body))
      ∙ ap (λ ts. most_of_step output calls ts body) (sym (behind all n 1)) in
      ap (λ k. slice_index all n * k + most_in output calls rest) a
      ∙ ap (λ t. t * most_of_step output calls (drop 1 (drop n all)) body + most_in output calls rest) (sym (next_turn all n))
  step_most output calls all n (While' at most condition p body) rest =
      let a : most_in output calls (step_before (slice_index all) n body Done) ≡ most_of_step output calls (drop n all) body =
      step_most output calls all n body Done ∙ (let z : (k : ℕ) → k + 0 ≡ k = λ k. omega arith in z (most_of_step output calls (drop n all) body)) in
      ap (λ k. most * k + most_in output calls rest) a
  step_most output calls all n (Call at target callee arguments) rest = refl

  row_before_most : {m : _} (output : ℕ) (calls : ℕ → ℕ) (all : List ℕ) (n : ℕ) (row : Row_of-Step m) (rest : Steps) →
      most_in output calls (row_before (slice_index all) n row rest) ≡ most_of_row output calls (drop n all) row + most_in output calls rest
  row_before_most output calls all n end_of-Step rest = omega arith
  row_before_most output calls all n (more_of-Step first others) rest =
      let a = step_most output calls all n first (row_before (slice_index all) (n + loops_of first) others rest) in
      let b = row_before_most output calls all (n + loops_of first) others rest in
      let e = ap (λ ts. most_of_row output calls ts others) (behind all n (loops_of first)) in
      omega (arith, a, b, e)
