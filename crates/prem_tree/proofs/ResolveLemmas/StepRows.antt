-- A row of steps in memory as a list.
use Rattle.std.proofs.Common.{◌≡◌, ℕ, ◌+◌, refl, ap, ◌∙◌}
use Rattle.prem_list.specs.declared.Sequence.{Sequence}
use Rattle.prem_list.specs.Sequence.{items_of}
use Rattle.prem_syntax.specs.Resolved.{Steps}
use Rattle.prem_tree.specs.declared.resolve.resolved.Step.{Step, Block, Row_of-Step, end_of-Step, more_of-Step, items-the_row-Step, items_hidden-the_row-Step-0}
use Rattle.prem_tree.specs.declared.resolve.resolved.Step.TheBlock.{hidden-the_row-Step-0}
use Rattle.prem_tree.specs.Resolve.ResolvedOf.{loops_of, row_loops, list_loops, step_before, row_before, list_before}

row_listed : {m : _} (turns : ℕ → ℕ) (n : ℕ) (row : Row_of-Step m) (rest : Steps) → row_before turns n row rest ≡ list_before turns n (items-the_row-Step m row) rest
row_listed turns n end_of-Step rest = refl
row_listed turns n (more_of-Step first others) rest = ap (step_before turns n first) (row_listed turns (n + loops_of first) others rest)

pub row_counted : {m : _} (row : Row_of-Step m) → row_loops row ≡ list_loops (items-the_row-Step m row)
row_counted end_of-Step = refl
row_counted (more_of-Step first others) = ap (λ k. loops_of first + k) (row_counted others)

-- a block in memory stands for the steps of its list
pub step_before-Block : (turns : ℕ → ℕ) (n : ℕ) (body : Sequence Step) (rest : Steps) → step_before turns n (Block body) rest ≡ list_before turns n (items_of body) rest
step_before-Block turns n body rest =
    row_listed turns n (hidden-the_row-Step-0 body.all) rest ∙ ap (λ xs. list_before turns n xs rest) (items_hidden-the_row-Step-0 body.all)

pub loops_of-Block : (body : Sequence Step) → loops_of (Block body) ≡ list_loops (items_of body)
loops_of-Block body = row_counted (hidden-the_row-Step-0 body.all) ∙ ap list_loops (items_hidden-the_row-Step-0 body.all)
