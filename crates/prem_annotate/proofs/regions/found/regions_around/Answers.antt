use Rattle.prem_annotate.proofs.Prelude.{elements_of, regions_around, items_of, global_of, region_of, map, drop, arith}
use Rattle.prem_annotate.proofs.Reaching.{regions_end}
use Rattle.prem_annotate.proofs.regions.found.regions_around.Goals as goal

pub returns-then-k-elements : goal.returns-then-k-elements
returns-then-k-elements c =
    regions_end c.args.at (map (λ g. global_of g.now) (drop c.loop-k.k c.args.globals.now)) c.args.elements.now c.loop-k.k (map region_of (items_of c.loop-k.all))
    (regions_around c.args.at (map (λ g. global_of g.now) c.args.globals.now) (elements_of c.args.elements.now)) (omega arith) c.loop-k.invariant
