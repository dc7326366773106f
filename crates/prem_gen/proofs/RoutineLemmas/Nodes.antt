-- A block in memory as a list, and a list step by step.
use Rattle.std.proofs.Common.{◌≡◌, ℕ, zero, suc, ◌+◌, ◌<◌, List, [], ◌∷◌, refl, ap, ◌∙◌, sym, length, drop, get_or, subst}
use Rattle.std.proofs.lemmas.List.{drop_more}
use Rattle.prem_list.specs.declared.Sequence.{Sequence}
use Rattle.prem_list.specs.Sequence.{items_of}
use Rattle.prem_tree.specs.declared.resolve.resolved.Step.{Step, Block, Row_of-Step, end_of-Step, more_of-Step, items-the_row-Step, items_hidden-the_row-Step-0}
use Rattle.prem_tree.specs.declared.resolve.resolved.Step.TheBlock.{hidden-the_row-Step-0}
use Rattle.prem_tree.specs.Resolve.ResolvedOf.{loops_of, row_loops, list_loops}
use Rattle.prem_asm.specs.Pieces.{followed}
use Rattle.prem_layout.specs.Template.Steps.{Parts}
use Rattle.prem_layout.specs.Template.Limits.{first_of}
use Rattle.prem_gen.specs.declared.routine.task.Callee.{Callee}
use Rattle.prem_gen.specs.Routine.Small.{StepSmall, RowSmall, ListSmall}
use Rattle.prem_gen.specs.Routine.StepCode.{whiles_of, row_whiles, list_whiles, code_at, row_code, list_code, deep_in, row_deep, list_deep}

row_listed-whiles : {l : _} (row : Row_of-Step l) → row_whiles row ≡ list_whiles (items-the_row-Step l row)
row_listed-whiles end_of-Step = refl
row_listed-whiles (more_of-Step first rest) = ap (λ k. whiles_of first + k) (row_listed-whiles rest)

row_listed-loops : {l : _} (row : Row_of-Step l) → row_loops row ≡ list_loops (items-the_row-Step l row)
row_listed-loops end_of-Step = refl
row_listed-loops (more_of-Step first rest) = ap (λ k. loops_of first + k) (row_listed-loops rest)

row_listed-code : {l : _} (parts : Parts) (turns : ℕ → ℕ) (n m : ℕ) (row : Row_of-Step l) → row_code parts turns n m row ≡ list_code parts turns n m (items-the_row-Step l row)
row_listed-code parts turns n m end_of-Step = refl
row_listed-code parts turns n m (more_of-Step first rest) = ap (followed (code_at parts turns n m first)) (row_listed-code parts turns (n + whiles_of first) (m + loops_of first) rest)

row_listed-deep : {l : _} (row : Row_of-Step l) → row_deep row ≡ list_deep (items-the_row-Step l row)
row_listed-deep end_of-Step = refl
row_listed-deep (more_of-Step first rest) = ap (first_of (deep_in first)) (row_listed-deep rest)

row_listed-small : {l : _} (cs : List Callee) (row : Row_of-Step l) → RowSmall cs row → ListSmall cs (items-the_row-Step l row)
row_listed-small cs end_of-Step h = tt
row_listed-small cs (more_of-Step first rest) h = (h.0, row_listed-small cs rest h.1)

-- ---- a block is the list of its steps

pub block_whiles : (s : Step) (body : Sequence Step) (xs : List Step) → s ≡ Block body → xs ≡ items_of body → whiles_of s ≡ list_whiles xs
block_whiles s body xs is ex =
    ap whiles_of is ∙ row_listed-whiles (hidden-the_row-Step-0 body.all) ∙ ap list_whiles (items_hidden-the_row-Step-0 body.all) ∙ ap list_whiles (sym ex)

pub block_loops : (s : Step) (body : Sequence Step) (xs : List Step) → s ≡ Block body → xs ≡ items_of body → loops_of s ≡ list_loops xs
block_loops s body xs is ex =
    ap loops_of is ∙ row_listed-loops (hidden-the_row-Step-0 body.all) ∙ ap list_loops (items_hidden-the_row-Step-0 body.all) ∙ ap list_loops (sym ex)

pub block_code : (parts : Parts) (turns : ℕ → ℕ) (n m : ℕ) (s : Step) (body : Sequence Step) (xs : List Step) → s ≡ Block body → xs ≡ items_of body →
    code_at parts turns n m s ≡ list_code parts turns n m xs
block_code parts turns n m s body xs is ex =
    ap (code_at parts turns n m) is ∙ row_listed-code parts turns n m (hidden-the_row-Step-0 body.all)
    ∙ ap (list_code parts turns n m) (items_hidden-the_row-Step-0 body.all) ∙ ap (list_code parts turns n m) (sym ex)

pub block_deep : (s : Step) (body : Sequence Step) (xs : List Step) → s ≡ Block body → xs ≡ items_of body → deep_in s ≡ list_deep xs
block_deep s body xs is ex =
    ap deep_in is ∙ row_listed-deep (hidden-the_row-Step-0 body.all) ∙ ap list_deep (items_hidden-the_row-Step-0 body.all) ∙ ap list_deep (sym ex)

pub block_small : (cs : List Callee) (s : Step) (body : Sequence Step) (xs : List Step) → s ≡ Block body → xs ≡ items_of body → StepSmall cs s → ListSmall cs xs
block_small cs s body xs is ex h =
    let inside : ListSmall cs (items-the_row-Step _ (hidden-the_row-Step-0 body.all)) = row_listed-small cs (hidden-the_row-Step-0 body.all) (subst (StepSmall cs) is h) in
    subst (ListSmall cs) (items_hidden-the_row-Step-0 body.all ∙ sym ex) inside

-- ---- the step at a place, and those behind it

small_behind : (cs : List Callee) (ss : List Step) (i : ℕ) → ListSmall cs ss → ListSmall cs (drop i ss)
small_behind cs [] zero h = h
small_behind cs [] (suc i) h = h
small_behind cs (s ∷ ss) zero h = h
small_behind cs (s ∷ ss) (suc i) h = small_behind cs ss i h.1

pub small_at : (cs : List Callee) (ss : List Step) (i : ℕ) (s : Step) → i < length ss → s ≡ get_or ss i s → ListSmall cs ss → StepSmall cs s
small_at cs ss i s h is all = (subst (ListSmall cs) (drop_more ss i s h ∙ ap (λ x. x ∷ drop (i + 1) ss) (sym is)) (small_behind cs ss i all)).0

pub steps_drop : (ss : List Step) (i : ℕ) (s : Step) → i < length ss → s ≡ get_or ss i s → drop i ss ≡ s ∷ drop (i + 1) ss
steps_drop ss i s h is = drop_more ss i s h ∙ ap (λ x. x ∷ drop (i + 1) ss) (sym is)
