use Rattle.std.proofs.Common.{◌≡◌, ◌++◌, map, take}
use Rattle.prem_lint.specs.Spots.{shown}
use Rattle.prem_lint.proofs.excerpt.put_shown.Given as goal

abbrev pub invariant-loop-byte : goal.invariant-loop-byte
invariant-loop-byte l = l.text.items ≡ l.initial.text.items ++ map shown (take l.byte-index l.line)
