use Rattle.std.proofs.Common.{◌≡◌, ◌++◌, ◌-◌, map}
use Rattle.prem_place.specs.Verdict.Told.{numbered}
use Rattle.prem_annotate_answer.specs.Steps.{lengths_from}
use Rattle.prem_annotate_answer.proofs.lengths.lengths_of.Given as goal

abbrev pub invariant-loop-n : goal.invariant-loop-n
invariant-loop-n l = l.lengths.items ++ lengths_from (map numbered l.facts) l.n (l.count - l.n) ≡ lengths_from (map numbered l.facts) 0 l.count
