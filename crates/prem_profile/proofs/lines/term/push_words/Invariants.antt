use Rattle.std.proofs.Common.{◌≡◌, ◌++◌, replicate}
use Rattle.prem_profile.proofs.lines.term.push_words.Given as goal

abbrev pub invariant-words : goal.invariant-words
invariant-words l = l.lines.items ≡ l.initial.lines.items ++ replicate l.counter l.line
