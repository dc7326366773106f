use Rattle.prem_annotating.proofs.EditingLemmas.Ranges.{lengths_differ}
use Rattle.prem_syntax.specs.SyntaxOf.{region_of}
use Rattle.prem_annotating.proofs.editing.orders.same_regions.Goals as goal

pub returns-then-old-wanted : goal.returns-then-old-wanted
returns-then-old-wanted c = lengths_differ region_of c.args.old.now c.args.wanted.now c.if-old-wanted.true
