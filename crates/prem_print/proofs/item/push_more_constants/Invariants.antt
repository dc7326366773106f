use Rattle.std.proofs.Common.{◌≡◌, drop}
use Rattle.prem_text.specs.Canonical.Canonical.{more_constants}
use Rattle.prem_print.specs.Written.{written}
use Rattle.prem_print.proofs.item.push_more_constants.Given as goal

abbrev pub invariant-loop-value : goal.invariant-loop-value
invariant-loop-value l = written l.text.items (more_constants (drop l.value-index l.rest)) ≡ written l.initial.text.items (more_constants l.rest)
