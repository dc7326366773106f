use Rattle.std.proofs.Common.{◌≡◌, ◌++◌, replicate}
use Rattle.prem_profile.proofs.calls.push_function.Given as goal

abbrev pub invariant-words : goal.invariant-words
invariant-words l = l.functions.items ≡ l.initial.functions.items ++ replicate l.counter l.function
