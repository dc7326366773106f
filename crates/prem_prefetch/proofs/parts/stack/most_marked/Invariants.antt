use Rattle.std.proofs.Common.{◌≡◌, max, drop}
use Rattle.prem_split.specs.PlansWith.{marks_of}
use Rattle.prem_prefetch.specs.Parts.Parts.{most_marked}
use Rattle.prem_prefetch.proofs.parts.stack.most_marked.Given as goal

abbrev pub invariant-loop-n : goal.invariant-loop-n
invariant-loop-n l = max l.most (most_marked l.depths l.n (marks_of (drop l.n l.fs))) ≡ most_marked l.depths 0 (marks_of l.fs)
