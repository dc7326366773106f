use Rattle.std.proofs.Common.{List, ◌++◌, ap, sym, ◌∙◌}
use Rattle.prem_analysis.proofs.Prelude.{targets, list_targets, Step}
use Rattle.prem_analysis.proofs.RangingLemmas.Sequences.{block_targets}
use Rattle.prem_analysis.proofs.ranging.saves.+adding.Goals as goal

pub add_assigned-returns-in_ok-add_all-in-Block : goal.add_assigned-returns-in_ok-add_all-in-Block
add_assigned-returns-in_ok-add_all-in-Block t c =
    let old = c.args.locals.now.items in
    c.in_ok-add_all-in-Block.ensures ∙ ap (λ (l : List Step). old ++ list_targets l) c.items.ensures
    ∙ sym (ap (λ ks. old ++ ks) (block_targets c.in-Block.body)) ∙ sym (ap (λ (x : Step). old ++ targets x) c.in-Block.is)
