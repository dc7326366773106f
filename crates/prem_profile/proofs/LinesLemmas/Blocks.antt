-- A block in memory as the list of its steps.
use Rattle.std.specs.Prelude.{◌||◌}
use Rattle.std.proofs.Common.{◌≡◌, List, ◌++◌, refl, ap, ◌∙◌, sym}
use Rattle.prem_list.specs.declared.Sequence.{Sequence}
use Rattle.prem_list.specs.Sequence.{items_of}
use Rattle.prem_plant.specs.declared.plant.Target.{Target}
use Rattle.prem_tree.specs.declared.resolve.resolved.Step.{Step, Block, Row_of-Step, end_of-Step, more_of-Step, items-the_row-Step, items_hidden-the_row-Step-0}
use Rattle.prem_tree.specs.declared.resolve.resolved.Step.TheBlock.{hidden-the_row-Step-0}
use Rattle.prem_profile.specs.Lines.Memory.{has_code, lines_at, list_has, list_lines, row_has, row_lines}

row_listed-has : {l : _} (row : Row_of-Step l) → row_has row ≡ list_has (items-the_row-Step l row)
row_listed-has end_of-Step = refl
row_listed-has (more_of-Step first rest) = ap (λ b. has_code first || b) (row_listed-has rest)

row_listed-lines : {l : _} (target : Target) (row : Row_of-Step l) → row_lines target row ≡ list_lines target (items-the_row-Step l row)
row_listed-lines target end_of-Step = refl
row_listed-lines target (more_of-Step first rest) = ap (λ xs. lines_at target first ++ xs) (row_listed-lines target rest)

pub block_has : (s : Step) (body : Sequence Step) (xs : List Step) → s ≡ Block body → xs ≡ items_of body → has_code s ≡ list_has xs
block_has s body xs is ex =
    ap has_code is ∙ row_listed-has (hidden-the_row-Step-0 body.all) ∙ ap list_has (items_hidden-the_row-Step-0 body.all) ∙ ap list_has (sym ex)

pub block_lines : (target : Target) (s : Step) (body : Sequence Step) (xs : List Step) → s ≡ Block body → xs ≡ items_of body → lines_at target s ≡ list_lines target xs
block_lines target s body xs is ex =
    ap (lines_at target) is ∙ row_listed-lines target (hidden-the_row-Step-0 body.all)
    ∙ ap (list_lines target) (items_hidden-the_row-Step-0 body.all) ∙ ap (list_lines target) (sym ex)
