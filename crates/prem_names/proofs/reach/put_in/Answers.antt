use Rattle.std.proofs.Common.{◌≡◌, [], drop, ap, sym, ◌∙◌, arith, rules}
use Rattle.std.proofs.lemmas.Grind.{common_steps}
use Rattle.prem_names.specs.Reach.Reach.{with_numbers}
use Rattle.prem_names.proofs.ReachLemmas.Sets.{put_next, put_all}
use Rattle.prem_names.proofs.reach.put_in.Goals as goal

pub loop-k-preserved : goal.loop-k-preserved
loop-k-preserved c = put_next c.args.numbers.now c.loop-k.k-index _ c.loop-k.set c.put_one.new.set _ (omega arith) (search rules) c.put_one.ensures c.loop-k.invariant

pub returns : goal.returns
returns c =
    let ks = c.args.numbers.now in
    let none : drop c.loop-k.k-index ks ≡ [] = grind (arith, common_steps) in
    sym (put_all 0 c.loop-k.set) ∙ ap (λ xs. with_numbers xs 0 c.loop-k.set) (sym none) ∙ c.loop-k.invariant
