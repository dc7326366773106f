use Rattle.std.specs.Prelude.{codes, decimal}
use Rattle.std.specs.List.{flat_map}
use Rattle.std.proofs.Common.{◌≡◌, ◌++◌, take}
use Rattle.prem_running.proofs.sample.program.push_further.Given as goal

abbrev pub invariant-numbers : goal.invariant-numbers
invariant-numbers l = l.text.items ≡ l.initial.text.items ++ flat_map (λ n. codes ", " ++ decimal n) (take l.number-index l.numbers)
