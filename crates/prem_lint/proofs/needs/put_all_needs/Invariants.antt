use Rattle.std.proofs.Common.{◌≡◌, ◌++◌, map, drop}
use Rattle.prem_place.specs.Verdict.Told.{numbered}
use Rattle.prem_stages.specs.Stages.{checked_text}
use Rattle.prem_lint.specs.Needs.{needs_from}
use Rattle.prem_lint.proofs.needs.put_all_needs.Given as goal

abbrev pub invariant-loop-n : goal.invariant-loop-n
invariant-loop-n l =
    l.text.items ++ needs_from l.n (map numbered l.facts) l.sources (map checked_text (drop l.n l.programs))
    ≡ l.initial.text.items ++ needs_from 0 (map numbered l.facts) l.sources (map checked_text l.programs)
