use Rattle.std.proofs.Common.{◌≡◌, map}
use Rattle.prem_syntax.specs.Breaches.{is_marked_text, table_of}
use Rattle.prem_syntax.specs.Reach.{reached_by}
use Rattle.prem_names.specs.Scopes.{scope_of}
use Rattle.prem_names.specs.Reach.Reach.{Closed}
use Rattle.prem_names.proofs.reach.reached.Given as goal

abbrev pub invariant-loop-turn : goal.invariant-loop-turn
invariant-loop-turn l = record {
  reached : l.set.items ≡ reached_by (table_of (scope_of l.names).functions) (map is_marked_text (scope_of l.names).functions) l._turn;
  closed : Closed (map (λ ks. ks.items) l.table.items) l.before.items 0 l.set.items;
}
