use Rattle.std.proofs.Common.{◌≡◌, replicate}
use Rattle.prem_profile.proofs.strip.no_rows.Given as goal

abbrev pub invariant-words : goal.invariant-words
invariant-words l = l.words.items ≡ replicate l.counter 0
