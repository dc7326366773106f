use Rattle.std.proofs.Common.{◌≡◌, ◌+◌, ◌++◌, drop, map}
use Rattle.prem_profile.specs.Strips.{strip_of}
use Rattle.prem_profile.specs.Calls.{narrow}
use Rattle.prem_profile.specs.Callgrind.{calls_at, lines_text}
use Rattle.prem_profile.proofs.callgrind.push_lines.Given as goal

-- what is there, and what is left
abbrev pub invariant-costs : goal.invariant-costs
invariant-costs l = record {
  row : l.at ≡ l.row + l.cost-index;
  text :
      l.text.items ++ lines_text (calls_at (map strip_of l.strips) l.calls.callees.items (map narrow l.calls.costs.items)) l.at l.left (drop l.cost-index l.costs)
      ≡ l.initial.text.items ++ lines_text (calls_at (map strip_of l.strips) l.calls.callees.items (map narrow l.calls.costs.items)) l.row l.lines l.costs;
}
