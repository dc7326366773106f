use Rattle.std.specs.List.{flat_map}
use Rattle.std.proofs.Common.{◌≡◌, ◌++◌, take}
use Rattle.prem_lint.specs.Spots.{pad}
use Rattle.prem_lint.proofs.excerpt.put_pads.Given as goal

abbrev pub invariant-loop-byte : goal.invariant-loop-byte
invariant-loop-byte l = l.text.items ≡ l.initial.text.items ++ flat_map pad (take l.byte-index l.bytes)
