use Rattle.std.proofs.Common.{◌≡◌, ◌+◌, ◌-◌, ◌++◌, length, replicate}
use Rattle.prem_profile.specs.Spent.{no_cost}
use Rattle.prem_profile.specs.Strips.{set_rows}
use Rattle.prem_profile.proofs.strip.set_rows.Given as goal

-- what is left gives what all give
abbrev pub invariant-words : goal.invariant-words
invariant-words l = record {
  words : set_rows l.rows.words.items (l.place + l.n) (length l.rows.costs.items) (l.count - l.n) ≡ set_rows l.initial.rows.words.items l.place (length l.initial.rows.costs.items) l.count;
  costs : l.rows.costs.items ≡ l.initial.rows.costs.items ++ replicate l.n no_cost;
}
