use Rattle.std.proofs.Common.{List, ◌++◌, ap, sym, ◌∙◌}
use Rattle.prem_analysis.proofs.Prelude.{called, list_called, Step}
use Rattle.prem_analysis.proofs.MarksLemmas.CalledTrees.{block_called}
use Rattle.prem_analysis.proofs.marks.calls.+calling.Goals as goal

pub add_called-returns-in_ok-add_all_called-in-Block : goal.add_called-returns-in_ok-add_all_called-in-Block
add_called-returns-in_ok-add_all_called-in-Block t c =
    let before = c.args.calls.now.items in
    c.in_ok-add_all_called-in-Block.ensures ∙ ap (λ (l : List Step). before ++ list_called l) c.items.ensures
    ∙ sym (ap (λ l. before ++ l) (block_called c.in-Block.body)) ∙ sym (ap (λ (s : Step). before ++ called s) c.in-Block.is)
