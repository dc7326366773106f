use Rattle.std.proofs.Common.{◌≡◌, map, drop}
use Rattle.prem_place.specs.Verdict.Told.{numbered}
use Rattle.prem_annotate_answer.specs.Written.{length_in}
use Rattle.prem_annotate_answer.proofs.lengths.length_in.Given as goal

abbrev pub invariant-loop-fact : goal.invariant-loop-fact
invariant-loop-fact l = length_in (map numbered (drop l.fact-index l.facts)) l.n ≡ length_in (map numbered l.facts) l.n
