use Rattle.std.proofs.Common.{◌≡◌, ◌++◌, map, drop, length, replicate}
use Rattle.prem_profile.specs.Spent.{no_cost}
use Rattle.prem_profile.specs.Strips.{strip_of, strip_rows, strip_words}
use Rattle.prem_profile.proofs.strip.set_strips.Given as goal

-- what is left gives what all give
abbrev pub invariant-strips : goal.invariant-strips
invariant-strips l = record {
  words :
      strip_rows l.rows.words.items (length l.rows.costs.items) (map strip_of (drop l.strip-index l.strips))
      ≡ strip_rows l.initial.rows.words.items (length l.initial.rows.costs.items) (map strip_of l.strips);
  costs : l.rows.costs.items ++ replicate (strip_words (map strip_of (drop l.strip-index l.strips))) no_cost ≡ l.initial.rows.costs.items ++ replicate (strip_words (map strip_of l.strips)) no_cost;
}
