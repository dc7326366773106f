use Rattle.std.proofs.Common.{◌≡◌, ◌++◌, take}
use Rattle.prem_chart.specs.Pieces.{escaped}
use Rattle.prem_chart.proofs.text.push_escaped.Given as goal

abbrev pub invariant-bytes : goal.invariant-bytes
invariant-bytes l = l.text.items ≡ l.initial.text.items ++ escaped (take l.byte-index l.name)
