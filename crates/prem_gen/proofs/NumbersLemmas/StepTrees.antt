-- Steps in memory have the numbers of the steps for which they stand.
use Rattle.std.specs.Prelude.{All}
use Rattle.std.specs.Option.{option_map}
use Rattle.std.proofs.Common.{◌<◌, ℕ, ◌+◌, ◌^◌, List, [], ◌∷◌, map, Option, None, Some, arith}
use Rattle.std.proofs.lemmas.List.Elements.{All-nil, All-cons}
use Rattle.prem_list.specs.Sequence.{items_of}
use Rattle.prem_syntax.specs.Resolved.{Steps, Done}
use Rattle.prem_tree.specs.declared.resolve.resolved.Term.{Term as TermTree}
use Rattle.prem_tree.specs.declared.resolve.resolved.Step.{Step, Row_of-Step, end_of-Step, more_of-Step}
use Rattle.prem_tree.specs.declared.resolve.resolved.Step.TheVariants.{Block', SetLocal, SetScalar, SetElement, Output, Input, If', For', While', Call}
use Rattle.prem_tree.specs.Resolve.ResolvedOf.{term_of, loops_of, step_before, row_before}
use Rattle.prem_gen.specs.Term.Numbers.{HasSmall}
use Rattle.prem_gen.specs.declared.routine.task.Callee.{Callee}
use Rattle.prem_gen.specs.Routine.Parts.{callee_at}
use Rattle.prem_gen.specs.Routine.Small.{StepSmall, RowSmall}
use Rattle.prem_gen.specs.Routine.RoutineCode.{ResultSmall as TreeResultSmall}
use Rattle.prem_gen.specs.Numbers.Steps.{AllSmall, ResultSmall, StepsSmall, EachCallee}
use Rattle.prem_gen.specs.Numbers.Trees.{TreesAreSmall}
use Rattle.prem_gen.proofs.NumbersLemmas.Numbers.{tree_small}

terms_small : (es : List TermTree) → AllSmall (map term_of es) → All HasSmall es
terms_small [] h = All-nil HasSmall
terms_small (e ∷ es) h = All-cons HasSmall e es (tree_small e h.0) (terms_small es h.1)

result_small : (e : Option TermTree) → ResultSmall (option_map term_of e) → TreeResultSmall e
result_small None h = tt
result_small (Some e) h = tree_small e h

module _ (cs : List Callee) (turns : ℕ → ℕ) (n : ℕ) (below : n < 256) where
  abbrev Fits : ℕ → Type 0
  Fits f = (callee_at cs f).frame < 2 ^ 16

  -- the numbers of a step, and of those behind it
  abbrev Small : Type 0 → Steps → Type 0
  Small here rest = here × (StepsSmall n rest × EachCallee Fits rest)

  mutual
    step_small : (m : ℕ) (s : Step) (rest : Steps) → StepsSmall n (step_before turns m s rest) → EachCallee Fits (step_before turns m s rest) → Small (StepSmall cs s) rest
    step_small m (Block' shape body) rest h c = row_small m body rest h c
    step_small m (SetLocal at k value) rest h c = ((h.0.0, tree_small value h.0.1), (h.1, c))
    step_small m (SetScalar at g ty value) rest h c = ((h.0.0, tree_small value h.0.1), (h.1, c))
    step_small m (SetElement at g ty index value) rest h c = ((h.0.0, (tree_small index h.0.1.0, tree_small value h.0.1.1)), (h.1, c))
    step_small m (Output at value) rest h c = (tree_small value h.0, (h.1, c))
    step_small m (Input at k) rest h c = (h.0, (h.1, c))
    step_small m (If' at condition p taken q other) rest h c =
        ((tree_small condition h.0.0, ((step_small m taken Done h.0.1.0 c.0).0, (step_small (m + loops_of taken) other Done h.0.1.1 c.1.0).0)), (h.1, c.1.1))
    step_small m (For' at k low closed high step p body) rest h c =
        ((h.0.0, (tree_small low h.0.1.0, (tree_small high h.0.1.1.0, (h.0.1.1.1.0, (step_small (m + 1) body Done h.0.1.1.1.1 c.0).0)))), (h.1, c.1))
    step_small m (While' at most condition p body) rest h c = ((tree_small condition h.0.0, (step_small m body Done h.0.1 c.0).0), (h.1, c.1))
    step_small m (Call at target f arguments) rest h c = ((h.0.0, ((omega (arith, h.0.1.0, below), c.0), terms_small (items_of arguments) h.0.1.1)), (h.1, c.1))

    row_small : {l : _} (m : ℕ) (row : Row_of-Step l) (rest : Steps) → StepsSmall n (row_before turns m row rest) → EachCallee Fits (row_before turns m row rest) → Small (RowSmall cs row) rest
    row_small m end_of-Step rest h c = (tt, (h, c))
    row_small m (more_of-Step first others) rest h c =
        let one = step_small m first (row_before turns (m + loops_of first) others rest) h c in
        let more = row_small (m + loops_of first) others rest one.1.0 one.1.1 in
        ((one.0, more.0), more.1)

pub trees_are_small : TreesAreSmall
trees_are_small cs turns m n r h c = record {
  locals_are = terms_small (items_of r.locals) h.locals_are;
  body_is = (step_small cs turns n h.number_is m r.body Done h.body_is c).0;
  result_is = result_small r.result h.result_is;
}
