use Rattle.std.proofs.Common.{◌≡◌, ◌≤◌, map, drop}
use Rattle.prem_syntax.specs.SyntaxOf.{item_of}
use Rattle.prem_syntax.specs.Rules.{first}
use Rattle.prem_check.specs.FoundOf.{found_of}
use Rattle.prem_check.specs.Walk.{first_behind}
use Rattle.prem_check.proofs.program.pass_items.Given as goal

abbrev pub invariant-loop-item : goal.invariant-loop-item
invariant-loop-item l = record {
  found : first (found_of l.found) (first_behind l.walk (l.names) l.within (map item_of (drop l.item-index l.items))) ≡ first_behind l.fn.walk (l.names) l.within (map item_of l.items);
  number : l.walk.number ≤ l.item-index;
}
