use Rattle.std.proofs.Common.{ap, ◌∙◌, refl}
use Rattle.prem_layout.specs.Stretch.Sums.{both, most}
use Rattle.prem_layout.proofs.StretchLemmas.Algebra.{same_sums}
use Rattle.prem_bounds.specs.ToldSums.{clip}
use Rattle.prem_bounds.proofs.AlikeSums.{most_alike, told_both}
use Rattle.prem_bounds.proofs.stretches.chained.Goals as goal

pub returns : goal.returns
returns c =
    let a = c.args.a in
    let b = c.args.b in
    same_sums _ _ (told_both c.sum_of_both-whole.result a.whole b.whole c.sum_of_both-whole.ensures)
    (ap clip c.most.ensures ∙ most_alike a.before c.sum_of_both-through.result a.before (both a.whole b.before) refl (told_both c.sum_of_both-through.result a.whole b.before c.sum_of_both-through.ensures))
    (ap clip c.most-3.ensures
    ∙ most_alike c.most-2.result c.sum_of_both-across.result (most a.between b.between) (both a.behind b.before) (ap clip c.most-2.ensures)
    (told_both c.sum_of_both-across.result a.behind b.before c.sum_of_both-across.ensures))
    (ap clip c.most-4.ensures ∙ most_alike b.behind c.sum_of_both-out.result b.behind (both a.behind b.whole) refl (told_both c.sum_of_both-out.result a.behind b.whole c.sum_of_both-out.ensures))
