use Rattle.std.proofs.Common.{◌≡◌, ◌+◌, ◌++◌, length, map, drop}
use Rattle.prem_profile.specs.Strips.{strip_of, strip_words}
use Rattle.prem_profile.specs.Calls.{narrow}
use Rattle.prem_profile.specs.Callgrind.{calls_at, strips_text}
use Rattle.prem_profile.proofs.callgrind.push_strips.Given as goal

-- what is there, and what is left
abbrev pub invariant-strips : goal.invariant-strips
invariant-strips l = record {
  row : l.at + length l.left ≡ l.row + length l.costs;
  rows : length l.left ≡ strip_words (map strip_of (drop l.strip-index l.strips));
  text :
      l.text.items
      ++ strips_text l.told.sources.now (calls_at (map strip_of l.told.strips.now) l.told.calls.now.callees.items (map narrow l.told.calls.now.costs.items)) l.at (map strip_of (drop l.strip-index l.strips)) l.left
      ≡ l.initial.text.items
      ++ strips_text l.told.sources.now (calls_at (map strip_of l.told.strips.now) l.told.calls.now.callees.items (map narrow l.told.calls.now.costs.items)) l.row (map strip_of l.told.strips.now) l.costs;
}
