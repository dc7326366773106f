use Rattle.std.proofs.Common.{◌≡◌, ◌≤◌, ◌+◌, ◌++◌, drop, map}
use Rattle.prem_annotating.proofs.Prelude.{order_of, over, edited, seen_of}
use Rattle.prem_annotating.proofs.editing.whole.edited.Given as goal

abbrev pub invariant-loop-i : goal.invariant-loop-i
invariant-loop-i l = record {
  so_far : l.out.items ++ over l.tokens l.orders l.at l.standing (drop l.i l.text) ≡ edited (map order_of l.orders) (map seen_of l.tokens) l.text;
  line : l.at.line ≤ l.i + 1;
  col : l.at.col ≤ l.i + 1;
  token : l.standing.token ≤ l.i;
  order : l.standing.order ≤ l.i;
}
